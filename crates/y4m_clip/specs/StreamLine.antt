-- A reader has to trust this file. The stream line of a clip: which texts are one, and with which
-- tags. (YUV4MPEG2; that the letters W, H, F, I, A and C occur once at most, and that other values
-- may be empty, is this project's choice.)
use Rattle.std.specs.Prelude.{◌≡◌, ◌≢◌, ℕ, suc, ◌==◌, nat_lt, Bool, true, false, not, ◌&&◌, ◌||◌, List, [], ◌∷◌, ◌++◌, replicate, codes}
use Rattle.std.specs.List.{AllByRecursion, list_any}
use Rattle.shelf_traits.specs.Decimals.{IsDigit}

-- neither blank nor LF
abbrev pub IsInk : ℕ → Type 0
IsInk b = (b ≢ 32) × (b ≢ 10)

-- W or H
abbrev pub is_axis : ℕ → Bool
is_axis letter = letter == 87 || letter == 72

-- one or more digits, of which some isn't 0
pub record IsCount (value : List ℕ) : Type 0 where
  pub digits : AllByRecursion IsDigit value
  pub positive : list_any (nat_lt 48) value ≡ true

-- the value of a letter: after W or H a number of at least 1, after all others any bytes but
-- blank and LF
abbrev pub MayHaveValue : Bool → List ℕ → Type 0
MayHaveValue true value = IsCount value
MayHaveValue false value = AllByRecursion IsInk value

abbrev pub IsTagValue : ℕ → List ℕ → Type 0
IsTagValue letter value = MayHaveValue (is_axis letter) value

-- a tag with this letter comes before
abbrev pub has_stood : List ℕ → ℕ → Bool
has_stood [] letter = false
has_stood (l ∷ letters) letter = l == letter || has_stood letters letter

-- a letter comes again
abbrev pub again : List ℕ → ℕ → ℕ → Bool
again letters letter once = letter == once && has_stood letters once

-- a letter may come after those of the tags before it: W, H, F, I, A and C occur once at most
abbrev pub may_stand : List ℕ → ℕ → Bool
may_stand letters letter =
    not (again letters letter 87 || again letters letter 72 || again letters letter 70
    || again letters letter 73 || again letters letter 65 || again letters letter 67)

-- W and H have come
abbrev pub has_axes : List ℕ → Bool
has_axes letters = has_stood letters 87 && has_stood letters 72

-- the rest of a stream line, after tags with these letters, has these tags: each with one or more
-- blanks before it; at the end come any number of blanks and LF
abbrev pub Continues : List ℕ → List (List ℕ) → List ℕ → Type 0
Continues letters [] text =
    (has_axes letters ≡ true) × (n : ℕ) × (text ≡ replicate n 32 ++ 10 ∷ [])
Continues letters ([] ∷ tags) text = ⊥
Continues letters ((letter ∷ value) ∷ tags) text =
    IsInk letter × (may_stand letters letter ≡ true) × IsTagValue letter value
    × (n : ℕ) × (rest : List ℕ) × (text ≡ replicate (suc n) 32 ++ letter ∷ value ++ rest)
    × Continues (letter ∷ letters) tags rest

-- the magic, and the rest of a stream line after no tag
pub record IsStreamLine (text : List ℕ) (tags : List (List ℕ)) : Type 0 where
  pub rest : List ℕ
  pub is : text ≡ codes "YUV4MPEG2" ++ rest
  pub continues : Continues [] tags rest

-- a prefix of some stream line
pub record IsLinePrefix (text : List ℕ) : Type 0 where
  pub rest : List ℕ
  pub tags : List (List ℕ)
  pub line : IsStreamLine (text ++ rest) tags

-- a prefix of some stream line, and no whole one
pub record IsProperLinePrefix (text : List ℕ) : Type 0 where
  pub starts : IsLinePrefix text
  pub proper : (tags : List (List ℕ)) → IsStreamLine text tags → ⊥
