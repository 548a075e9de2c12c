-- The first byte above maxval.
use Rattle.std.proofs.Common.{ℕ, ◌≤◌, ◌<◌, List, length, take, arith}
use Rattle.std.specs.Prelude.{Option, Some, None, All, MatchOption, IfSome}
use Rattle.std.specs.List.{AllWithin, HoldsAt}
use Rattle.std.proofs.lemmas.List.{length-take-le, get_or-take}
use Rattle.netpbm_p6.specs.Reading.{IsFirstAbove}

-- the fact of each index below a place, as one of the front
pub front_all : (maxval : ℕ) (bytes : List ℕ) (i : ℕ) → i ≤ length bytes → AllWithin (λ b. b ≤ maxval) bytes 0 i → All (λ b. b ≤ maxval) (take i bytes)
front_all maxval bytes i inside each = λ k d below.
    let lt : k < i = omega (arith, length-take-le i bytes inside) in
    rw get_or-take (each k d (omega arith) lt)

pub first_above_is : (maxval : ℕ) (bytes : List ℕ) (r : Option ℕ)
    → MatchOption r (AllWithin (λ b. b ≤ maxval) bytes 0 (length bytes)) (λ i. (i < length bytes) × HoldsAt (λ b. maxval < b) bytes i × AllWithin (λ b. b ≤ maxval) bytes 0 i)
    → IfSome r (IsFirstAbove maxval bytes)
first_above_is maxval bytes None found = tt
first_above_is maxval bytes (Some i) found = record { inside = found.0; before = front_all maxval bytes i (omega (arith, found.0)) found.2; above = found.1 0 }
