-- The state of a store that never fails: files that come one after another in one list of bytes.
-- (Own.)
use Rattle.std.specs.Prelude.{◌≡◌, ◌<◌, ◌≤◌, ◌+◌, ℕ, Bool, nat_eq, List, [], ◌∷◌, take, drop, length, if◌then◌else◌}
use Rattle.std.specs.Cmp.Lexicographic.{pointwise}
use Rattle.shelf_core.specs.declared.tape.TapeSpan.{TapeSpan}

-- the file, a name and its bytes, has this name
abbrev pub has_name : List ℕ → List ℕ × List ℕ → Bool
has_name name file = pointwise nat_eq file.0 name

abbrev pub no_span : TapeSpan
no_span = record { name = 0; bytes = 0 }

-- the files of a list of bytes, by the spans of their names and bytes
abbrev pub cut : List TapeSpan → List ℕ → List (List ℕ × List ℕ)
cut [] bytes = []
cut (s ∷ spans) bytes = (take s.name bytes, take s.bytes (drop s.name bytes)) ∷ cut spans
    (drop (s.name + s.bytes) bytes)

-- the bytes of all names and files
abbrev pub spent : List (List ℕ × List ℕ) → ℕ
spent [] = 0
spent (file ∷ files) = (length file.0 + length file.1) + spent files

-- the bytes under all spans
abbrev pub spanned : List TapeSpan → ℕ
spanned [] = 0
spanned (s ∷ spans) = (s.name + s.bytes) + spanned spans

-- how many names are empty
abbrev pub nameless : List TapeSpan → ℕ
nameless [] = 0
nameless (s ∷ spans) = (if nat_eq s.name 0 then 1 else 0) + nameless spans

-- the bytes that there is room for, and the files in the order in which they came
pub record TapeState : Type 0 where
  pub room : ℕ
  pub files : List (List ℕ × List ℕ)

-- the spans cover the bytes, which keep within the room; memory for both is there, since at most
-- one name is empty
pub record CoversBytes (room : ℕ) (spans : List TapeSpan) (bytes : List ℕ)
    (space marks : ℕ) : Type 0 where
  pub covered : spanned spans ≡ length bytes
  pub within : length bytes ≤ room
  pub one_nameless : nameless spans ≤ 1
  pub has_space : room ≤ space
  pub has_marks : room < marks
