-- A reader has to trust this file. The header of a P6 picture. (Netpbm's PPM, binary form; where a
-- comment may come is this project's choice: after the magic, the width and the height, with or
-- without white space before it.)
use Rattle.std.specs.Prelude.{◌≡◌, ◌≢◌, ◌≤◌, ◌⊎◌, ℕ, List, [], ◌∷◌, ◌++◌, length, All, codes}
use Rattle.std.specs.List.{AllByRecursion, concat}
use Rattle.shelf_traits.specs.Decimals.{IsDigit, value_behind}

-- blank, TAB, CR or LF
abbrev pub IsWhite : ℕ → Type 0
IsWhite b = (b ≡ 32) ⊎ (b ≡ 9) ⊎ (b ≡ 13) ⊎ (b ≡ 10)

abbrev pub EndsLine : ℕ → Type 0
EndsLine b = (b ≡ 13) ⊎ (b ≡ 10)

-- `#`, then bytes that are neither CR nor LF, then one CR or LF
pub record IsComment (text : List ℕ) : Type 0 where
  pub words : List ℕ
  pub end : ℕ
  pub within : All (λ b. (b ≢ 13) × (b ≢ 10)) words
  pub ends : EndsLine end
  pub is : text ≡ 35 ∷ words ++ end ∷ []

-- a white space byte or a comment
abbrev pub IsItem : List ℕ → Type 0
IsItem text = ((b : ℕ) × IsWhite b × (text ≡ b ∷ [])) ⊎ IsComment text

-- one item or more, one after another
pub record IsSeparator (text : List ℕ) : Type 0 where
  pub items : List (List ℕ)
  pub some : 1 ≤ length items
  pub each : AllByRecursion IsItem items
  pub is : text ≡ concat items

abbrev pub digits_number : List ℕ → ℕ
digits_number digits = value_behind 0 digits

-- one or more decimal digits with a value of at least 1
pub record IsNumber (text : List ℕ) (n : ℕ) : Type 0 where
  pub some : 1 ≤ length text
  pub digits : All IsDigit text
  pub value : digits_number text ≡ n
  pub positive : 1 ≤ n

-- a separator and a number
pub record IsGroup (text : List ℕ) (n : ℕ) : Type 0 where
  pub separator : List ℕ
  pub number : List ℕ
  pub separates : IsSeparator separator
  pub counts : IsNumber number n
  pub is : text ≡ separator ++ number

-- the magic, three groups for width, height and maxval, and one white space byte
pub record IsHeader (text : List ℕ) (width height maxval : ℕ) : Type 0 where
  pub first : List ℕ
  pub second : List ℕ
  pub third : List ℕ
  pub white : ℕ
  pub gives_width : IsGroup first width
  pub gives_height : IsGroup second height
  pub gives_maxval : IsGroup third maxval
  pub is_white : IsWhite white
  pub is : text ≡ codes "P6" ++ first ++ second ++ third ++ white ∷ []

-- a prefix of some header
pub record IsPrefix (text : List ℕ) : Type 0 where
  pub rest : List ℕ
  pub width : ℕ
  pub height : ℕ
  pub maxval : ℕ
  pub header : IsHeader (text ++ rest) width height maxval

-- a prefix of some header, and no whole one
pub record IsProperPrefix (text : List ℕ) : Type 0 where
  pub starts : IsPrefix text
  pub proper : (width height maxval : ℕ) → IsHeader text width height maxval → ⊥
