-- A reader has to trust this file. Records of boundaries: a path with its running sums, when it
-- stands, and what is broken first.
use Rattle.std.specs.Prelude.{ℕ, ◌+◌, ◌*◌, ◌≤◌, ◌<◌, ◌≡◌, ◌⊎◌, List, length, slice_index}
use Rattle.strip_boundary.specs.Strips.{ErrorTable, at_cell, error_at}
use Rattle.strip_boundary.specs.Boundaries.{AreNear, IsBoundary, boundary_cost}
use Rattle.strip_boundary.specs.declared.boundary.BoundaryRecord.{BoundaryRecord}
use Rattle.strip_boundary.specs.declared.check.BlockFault.{BlockFault}
use Rattle.strip_boundary.specs.declared.check.TheConstants.{PATH_RULE, SUMS_RULE, COST_RULE}

-- a sum of the first strip row is the error; a later one is at most the error plus each of the up
-- to three sums above it, at near columns (own)
pub record SumHolds (strip : ErrorTable) (sums : List ℕ) (row col : ℕ) : Type 0 where
  pub first : row ≡ 0 → at_cell strip sums row col ≡ error_at strip row col
  pub later : (above near : ℕ) → row ≡ above + 1 → near < strip.cols → AreNear near col →
      at_cell strip sums row col ≤ error_at strip row col + at_cell strip sums above near

-- the sum of every strip cell holds
abbrev pub SumsHold : ErrorTable → List ℕ → Type 0
SumsHold strip sums =
    (row col : ℕ) → row < strip.rows → col < strip.cols → SumHolds strip sums row col

-- the least sum of the last strip row
pub record IsLeastOfLastRow (strip : ErrorTable) (sums : List ℕ) (least : ℕ) : Type 0 where
  pub reached : (row : ℕ) → row + 1 ≡ strip.rows →
      (col : ℕ) × (col < strip.cols) × (at_cell strip sums row col ≡ least)
  pub below : (row col : ℕ) → row + 1 ≡ strip.rows → col < strip.cols →
      least ≤ at_cell strip sums row col

-- a record that stands (own): a boundary whose cost is the least sum of the last row, and a sum per
-- cell that holds
pub record BoundaryStands (strip : ErrorTable) (boundary : BoundaryRecord) : Type 0 where
  pub path : IsBoundary strip boundary.path
  pub sum_per_cell : length boundary.sums ≡ strip.rows * strip.cols
  pub sums : SumsHold strip boundary.sums
  pub cost : IsLeastOfLastRow strip boundary.sums (boundary_cost strip boundary.path)

-- one of the columns near `col` that have the least number there
pub record IsLeastNear (number_of : ℕ → ℕ) (cols col near : ℕ) : Type 0 where
  pub inside : near < cols
  pub beside : AreNear near col
  pub least : (other : ℕ) → other < cols → AreNear other col → number_of near ≤ number_of other

-- the error in the first strip row, and the error plus the least of the sums above in a later one
pub record IsTightSum (strip : ErrorTable) (sums : List ℕ) (row col sum : ℕ) : Type 0 where
  pub first : row ≡ 0 → sum ≡ error_at strip row col
  pub later : (above : ℕ) → row ≡ above + 1 →
      (near : ℕ) × IsLeastNear (at_cell strip sums above) strip.cols col near
      × (sum ≡ error_at strip row col + at_cell strip sums above near)

-- the sum of a cell is tight
abbrev pub IsTightAt : ErrorTable → List ℕ → ℕ → ℕ → Type 0
IsTightAt strip sums row col = IsTightSum strip sums row col (at_cell strip sums row col)

-- one sum per strip cell, and each is tight (own)
pub record AreTightSums (strip : ErrorTable) (sums : List ℕ) : Type 0 where
  pub sum_per_cell : length sums ≡ strip.rows * strip.cols
  pub tight : (row col : ℕ) → row < strip.rows → col < strip.cols → IsTightAt strip sums row col

-- a row of a path has a column of the strip, near the column of the row before
pub record ColumnHolds (strip : ErrorTable) (path : List ℕ) (row : ℕ) : Type 0 where
  pub present : row < length path
  pub inside : slice_index path row < strip.cols
  pub connected : (before : ℕ) → row ≡ before + 1 →
      AreNear (slice_index path before) (slice_index path row)

-- the first strip row whose column doesn't hold; the number of strip rows where a path is only too
-- long
pub record FirstBadColumn (strip : ErrorTable) (path : List ℕ) (place : ℕ) : Type 0 where
  pub before : (row : ℕ) → row < place → ColumnHolds strip path row
  pub here : ((place < strip.rows) × ¬ (ColumnHolds strip path place))
      ⊎ ((place ≡ strip.rows) × (strip.rows < length path))

-- the first strip cell, row by row, whose sum doesn't hold
pub record FirstBadSum (strip : ErrorTable) (sums : List ℕ) (place : ℕ) : Type 0 where
  pub row : ℕ
  pub col : ℕ
  pub row_inside : row < strip.rows
  pub col_inside : col < strip.cols
  pub place_of : place ≡ row * strip.cols + col
  pub rows_before : (r c : ℕ) → r < row → c < strip.cols → SumHolds strip sums r c
  pub cols_before : (c : ℕ) → c < col → SumHolds strip sums row c
  pub here : ¬ (SumHolds strip sums row col)

-- the first broken rule of a boundary record, and where it is broken (own)
abbrev pub IsFirstBoundaryFault : ErrorTable → BoundaryRecord → BlockFault → Type 0
IsFirstBoundaryFault strip boundary fault =
    ((fault.kind ≡ PATH_RULE) × FirstBadColumn strip boundary.path fault.place)
    ⊎ ((fault.kind ≡ SUMS_RULE) × IsBoundary strip boundary.path
    × FirstBadSum strip boundary.sums fault.place)
    ⊎ ((fault.kind ≡ COST_RULE) × (fault.place ≡ 0) × IsBoundary strip boundary.path
    × SumsHold strip boundary.sums
    × ¬ (IsLeastOfLastRow strip boundary.sums (boundary_cost strip boundary.path)))
