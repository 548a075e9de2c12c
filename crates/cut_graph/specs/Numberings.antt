-- For the contracts within the crate; nobody has to trust this file. Nodes given to the cells or
-- the pairs of a box, one after another: some get an end or none, and each of the others
-- the next number that is free. (Own.)
use Rattle.std.specs.Prelude.{◌≡◌, ◌≤◌, ◌<◌, ◌+◌, ℕ, List, length, slice_index}
use Rattle.cells.specs.declared.place.Size.{Size}
use Rattle.cells.specs.declared.place.Axis.{Axis}
use Rattle.boxes.specs.Pairs.{pair_number, IsPair}

-- the number is in the list
pub record IsGivenAt (nodes : List ℕ) (n : ℕ) : Type 0 where
  pub index : ℕ
  pub below : index < length nodes
  pub is : slice_index nodes index ≡ n

-- each number from one on, as far as the next that is free, occurs once
pub record IsNumbering (from next : ℕ) (nodes : List ℕ) : Type 0 where
  pub order : from ≤ next
  pub short : next ≤ from + length nodes
  pub below : (k : ℕ) → slice_index nodes k < next
  pub apart : (j k : ℕ) → from ≤ slice_index nodes j → slice_index nodes j ≡ slice_index nodes k →
      j ≡ k
  pub each : (n : ℕ) → from ≤ n → n < next → IsGivenAt nodes n

-- what the list says of each of the pairs that it has come to
pub record AtPairs (size : Size) (IsGood : Axis → ℕ → ℕ → ℕ → ℕ → Type 0)
    (values : List ℕ) : Type 0 where
  pub each : (axis : Axis) (x y f : ℕ) → IsPair size axis x y f →
      pair_number size axis x y f < length values
      → IsGood axis x y f (slice_index values (pair_number size axis x y f))
