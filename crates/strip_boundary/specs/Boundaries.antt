-- A reader has to trust this file. Boundaries, their cost, and the first least one.
use Rattle.std.specs.Prelude.{ℕ, ◌+◌, ◌≤◌, ◌<◌, ◌≡◌, ◌⊎◌, List, length, slice_index, zero, suc}
use Rattle.strip_boundary.specs.Strips.{ErrorTable, error_at}

-- two columns that differ by at most 1
abbrev pub AreNear : ℕ → ℕ → Type 0
AreNear a b = (a ≤ b + 1) × (b ≤ a + 1)

-- one column of the strip per strip row, near in neighbouring rows (Efros and Freeman 2001)
pub record IsBoundary (strip : ErrorTable) (path : List ℕ) : Type 0 where
  pub column_per_row : length path ≡ strip.rows
  pub inside : (row : ℕ) → row < strip.rows → slice_index path row < strip.cols
  pub connected : (row : ℕ) → row + 1 < strip.rows →
      AreNear (slice_index path row) (slice_index path (row + 1))

-- the sum of the errors along a path in the first rows
abbrev pub cost_of_rows : ErrorTable → List ℕ → ℕ → ℕ
cost_of_rows strip path zero = 0
cost_of_rows strip path (suc row) =
    cost_of_rows strip path row + error_at strip row (slice_index path row)

-- the cost of a boundary: the sum of the errors along it (Efros and Freeman 2001)
abbrev pub boundary_cost : ErrorTable → List ℕ → ℕ
boundary_cost strip path = cost_of_rows strip path strip.rows

-- a boundary that no other undercuts (Efros and Freeman 2001)
pub record IsLeastBoundary (strip : ErrorTable) (path : List ℕ) : Type 0 where
  pub boundary : IsBoundary strip path
  pub least : (other : List ℕ) → IsBoundary strip other →
      boundary_cost strip path ≤ boundary_cost strip other

-- the columns of the first rows, read from the last of these rows to the first, are
-- lexicographically at most those of the other path (own)
abbrev pub ComesNoLater : List ℕ → List ℕ → ℕ → Type 0
ComesNoLater path other zero = Unit {0}
ComesNoLater path other (suc row) =
    (slice_index path row < slice_index other row)
    ⊎ ((slice_index path row ≡ slice_index other row) × ComesNoLater path other row)

-- the least boundary whose columns, read from the last strip row to the first, are
-- lexicographically smallest (own)
pub record IsFirstLeast (strip : ErrorTable) (path : List ℕ) : Type 0 where
  pub least : IsLeastBoundary strip path
  pub first : (other : List ℕ) → IsLeastBoundary strip other → ComesNoLater path other strip.rows
