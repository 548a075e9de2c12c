-- A reader has to trust this file. Reads from a place of a file, where its bytes are known. (Own.)
use Rattle.std.specs.Prelude.{◌≡◌, ◌<◌, ◌≤◌, ◌-◌, ◌++◌, ℕ, List, take, drop, length, Option, IfSome}
use Rattle.shelf_traits.specs.Files.{Reads}

-- where the bytes are known, the place is this
abbrev pub IsAt : Option (List ℕ) → ℕ → ℕ → Type 0
IsAt bytes now at = IfSome bytes (λ xs. now ≡ at)

-- n bytes were read from a place on: those of the file, and none only at its end
pub record ReadsPart (xs : List ℕ) (at : ℕ) (into : List ℕ) (n : ℕ) : Type 0 where
  pub fits : n ≤ length xs - at
  pub read : take n into ≡ take n (drop at xs)
  pub end : n ≡ 0 → 0 < length into → length xs ≤ at

-- the same where the bytes are known
abbrev pub ReadsSome : Option (List ℕ) → ℕ → List ℕ → ℕ → Type 0
ReadsSome bytes at into n = IfSome bytes (λ xs. ReadsPart xs at into n)

-- where the bytes are known, as many were read as the buffer and the file have, and those of the file
abbrev pub KnownReads : Option (List ℕ) → ℕ → List ℕ → ℕ → Type 0
KnownReads bytes at into n = IfSome bytes (λ xs. Reads xs at into n)

-- these are the bytes of the file that end at a place: they follow upon the bytes before them
abbrev pub EndsAt : List ℕ → ℕ → List ℕ → Type 0
EndsAt xs place kept = take (place - length kept) xs ++ kept ≡ take place xs
