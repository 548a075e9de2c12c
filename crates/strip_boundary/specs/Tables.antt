-- The state of loops, for the contracts within the crate: the least numbers of a row, and sums and
-- paths that are made in part.
use Rattle.std.specs.Prelude.{ℕ, ◌+◌, ◌*◌, ◌≤◌, ◌<◌, ◌≡◌, List, length, slice_index}
use Rattle.strip_boundary.specs.Strips.{ErrorTable, at_cell}
use Rattle.strip_boundary.specs.Boundaries.{AreNear}
use Rattle.strip_boundary.specs.Records.{IsTightAt, IsLeastNear}

-- the first of the columns from `start` up to `end` that have the least number there
pub record IsFirstLeastWithin (number_of : ℕ → ℕ) (start end col : ℕ) : Type 0 where
  pub from : start ≤ col
  pub below : col < end
  pub least : (other : ℕ) → start ≤ other → other < end → number_of col ≤ number_of other
  pub first : (other : ℕ) → start ≤ other → other < col → number_of col < number_of other

-- the first of the columns near `col` that have the least number there
pub record IsFirstLeastNear (number_of : ℕ → ℕ) (cols col near : ℕ) : Type 0 where
  pub least : IsLeastNear number_of cols col near
  pub first : (other : ℕ) → AreNear other col → other < near → number_of near < number_of other

-- sums for the first rows and for the first columns of the row below them, all tight
pub record AreTightUpTo (strip : ErrorTable) (sums : List ℕ) (rows cols : ℕ) : Type 0 where
  pub sum_per_cell : length sums ≡ rows * strip.cols + cols
  pub rows_above : (row col : ℕ) → row < rows → col < strip.cols → IsTightAt strip sums row col
  pub cols_before : (col : ℕ) → col < cols → IsTightAt strip sums rows col

-- from the last row back to row `start`, the first column with the least sum: of the whole last
-- row, and near the column of the row below in every other
pub record IsTracedFrom (strip : ErrorTable) (sums path : List ℕ) (start : ℕ) : Type 0 where
  pub column_per_row : length path ≡ strip.rows
  pub last : (row : ℕ) → row + 1 ≡ strip.rows → start ≤ row →
      IsFirstLeastWithin (at_cell strip sums row) 0 strip.cols (slice_index path row)
  pub back : (row : ℕ) → row + 1 < strip.rows → start ≤ row →
      IsFirstLeastNear (at_cell strip sums row) strip.cols (slice_index path (row + 1))
      (slice_index path row)
