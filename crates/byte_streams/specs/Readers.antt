-- A reader has to trust this file. What a reader of a file keeps of it. (Own.)
use Rattle.std.specs.Prelude.{◌≡◌, ◌≤◌, ◌-◌, ℕ, List, take, drop, length, Option, None, Some, IfSome}
use Rattle.byte_streams.specs.Places.{EndsAt}

-- where bytes and place are known, the file stands at that place, and the kept bytes end there
pub record StandsAt (xs : List ℕ) (now place : ℕ) (kept : List ℕ) : Type 0 where
  pub stands : now ≡ place
  pub ends : EndsAt xs place kept

abbrev pub FileFollows : Option (List ℕ) → ℕ → Option ℕ → List ℕ → Type 0
FileFollows bytes now place kept = IfSome bytes (λ xs. IfSome place (λ at. StandsAt xs now at kept))

-- the same of a file, if one is open
abbrev pub Follows : {F : Type 0} → (F → Option (List ℕ)) → (F → ℕ) → Option F → Option ℕ → List ℕ → Type 0
Follows bytes place file known kept = IfSome file (λ f. FileFollows (bytes f) (place f) known kept)

-- the bytes of the file that is open, where they are known
abbrev pub open_bytes : Option (Option (List ℕ)) → Option (List ℕ)
open_bytes None = None
open_bytes (Some bytes) = bytes

-- the kept bytes end at a place, if that is known
abbrev pub KeptOf : List ℕ → Option ℕ → List ℕ → Type 0
KeptOf xs place kept = IfSome place (λ at. EndsAt xs at kept)

-- the first n bytes of a buffer are those of the file from a place on
pub record HasRead (xs : List ℕ) (at : ℕ) (into : List ℕ) (n : ℕ) : Type 0 where
  pub fits : n ≤ length xs - at
  pub read : take n into ≡ take n (drop at xs)
