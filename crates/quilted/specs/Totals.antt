-- What is read off the record of a block, for the contracts of `totals`. Nobody has to trust this
-- file. (Own.)
use Rattle.std.specs.Prelude.{All, ◌≡◌, ◌≤◌, ◌<◌, ◌^◌, ℕ, List, slice_index, Option, IfSome}
use Rattle.cells.specs.Cells.{Cells}
use Rattle.map_canvas.specs.declared.canvas.Placement.{Placement}
use Rattle.map_canvas.specs.Maps.{SourceMap}
use Rattle.strip_boundary.specs.declared.boundary.BoundaryRecord.{BoundaryRecord}
use Rattle.strip_boundary.specs.Boundaries.{boundary_cost}
use Rattle.strip_boundary.specs.Records.{BoundaryStands}
use Rattle.strip_boundary.specs.Strips.{ErrorTable}
use Rattle.block_strips.specs.declared.side.Side.{Side}
use Rattle.block_check.specs.declared.block.BlockRecord.{BlockRecord}
use Rattle.block_check.specs.Records.{BlockStands, JoinStands}
use Rattle.quilted.specs.Costs.{block_cost, side_cost}

-- one of the first so many numbers of a list that is least of them, by its place
pub record IsLeastAt (numbers : List ℕ) (count place : ℕ) : Type 0 where
  pub below : place < count
  pub least : (i : ℕ) → i < count → slice_index numbers place ≤ slice_index numbers i

-- what a boundary of so many strip rows costs along each strip for which its record stands
abbrev pub CostsSo : ℕ → BoundaryRecord → ℕ → Type 0
CostsSo rows boundary cost = (strip : ErrorTable) → strip.rows ≡ rows
    → BoundaryStands strip boundary → cost ≡ boundary_cost strip boundary.path

-- what the boundary on a side of a placement costs over each map over which it stands
abbrev pub SideCostsSo : Side → Placement → Option BoundaryRecord → ℕ → Type 0
SideCostsSo side placement boundary cost = (m : SourceMap) (sample : Cells)
    → JoinStands side m sample placement boundary
    → cost ≡ side_cost side m sample placement boundary

-- what the boundaries of a block cost over each map over which its record stands
abbrev pub BlockCostsSo : BlockRecord → ℕ → Type 0
BlockCostsSo block cost = (m : SourceMap) (sample : Cells) → BlockStands m sample block
    → cost ≡ block_cost m sample block

-- the columns of a path have 16 bits and its sums 32, by their types
pub record HasWidths (boundary : BoundaryRecord) : Type 0 where
  pub columns : All (λ column. column < 2 ^ 16) boundary.path
  pub sums : All (λ sum. sum < 2 ^ 32) boundary.sums

abbrev pub HasSideWidths : Option BoundaryRecord → Type 0
HasSideWidths boundary = IfSome boundary HasWidths

pub record HasBlockWidths (block : BlockRecord) : Type 0 where
  pub left : HasSideWidths block.left
  pub top : HasSideWidths block.top
