-- A reader has to trust this file. What is reported of block records: how many boundaries they
-- have, and what these cost. (Efros and Freeman 2001 cut along the boundary of least cost; that
-- the costs are summed is own.)
use Rattle.std.specs.Prelude.{◌≡◌, ◌<◌, ◌≤◌, ◌+◌, ◌^◌, ℕ, List, [], ◌∷◌, All, length, IfSome, Option, Some, None}
use Rattle.cells.specs.declared.place.Size.{Size}
use Rattle.cells.specs.Cells.{Cells}
use Rattle.map_canvas.specs.declared.canvas.Placement.{Placement}
use Rattle.map_canvas.specs.Choices.{Fits}
use Rattle.map_canvas.specs.Maps.{SourceMap}
use Rattle.strip_boundary.specs.declared.boundary.BoundaryRecord.{BoundaryRecord}
use Rattle.strip_boundary.specs.Boundaries.{boundary_cost}
use Rattle.block_strips.specs.declared.side.Side.{Side}
use Rattle.block_strips.specs.declared.side.Side.TheVariants.{Left, Top}
use Rattle.block_strips.specs.Strips.{strip_rows}
use Rattle.block_check.specs.declared.block.BlockRecord.{BlockRecord}
use Rattle.block_check.specs.Blocks.{IsFormedBlock, after_block, block_cells, strip_on}
use Rattle.limits.specs.declared.bounds.TheConstants.{MOST_BOX_CELLS}

-- how many boundaries there are: on one side of a block, of a block, and of a list of them
abbrev pub side_count : Option BoundaryRecord → ℕ
side_count None = 0
side_count (Some boundary) = 1

abbrev pub block_boundaries : BlockRecord → ℕ
block_boundaries block = side_count block.left + side_count block.top

abbrev pub all_boundaries : List BlockRecord → ℕ
all_boundaries [] = 0
all_boundaries (block ∷ blocks) = block_boundaries block + all_boundaries blocks

-- what the boundary on a side costs, along its strip over the map before the block
abbrev pub side_cost : Side → SourceMap → Cells → Placement → Option BoundaryRecord → ℕ
side_cost side m sample placement None = 0
side_cost side m sample placement (Some boundary) =
    boundary_cost (strip_on side m sample placement (Some boundary)) boundary.path

-- what both boundaries of a block cost
abbrev pub block_cost : SourceMap → Cells → BlockRecord → ℕ
block_cost m sample block = side_cost Left m sample block.placement block.left
    + side_cost Top m sample block.placement block.top

-- what all boundaries cost, of each block over the map that the blocks before it leave
abbrev pub quilt_cost : Cells → SourceMap → List BlockRecord → ℕ
quilt_cost sample m [] = 0
quilt_cost sample m (block ∷ blocks) =
    block_cost m sample block + quilt_cost sample (after_block m block) blocks

-- a boundary with a column of 16 bits for each strip row, and sums of 32 bits
pub record IsFileBoundary (rows : ℕ) (boundary : BoundaryRecord) : Type 0 where
  pub column_per_row : length boundary.path ≡ rows
  pub columns : All (λ column. column < 2 ^ 16) boundary.path
  pub sums : All (λ sum. sum < 2 ^ 32) boundary.sums

abbrev pub IsFileSide : Side → Placement → Option BoundaryRecord → Type 0
IsFileSide side placement boundary =
    IfSome boundary (IsFileBoundary (strip_rows side placement.rect.size))

-- a block record as a file of them holds: its box lies in an output of this size and its new sources
-- in the sample
pub record IsFileBlock (output : Size) (sample : Cells) (block : BlockRecord) : Type 0 where
  pub fits : Fits output sample block.placement
  pub formed : IsFormedBlock block
  pub left : IsFileSide Left block.placement block.left
  pub top : IsFileSide Top block.placement block.top

-- and all of them: the boxes don't have too many cells
pub record AreFileBlocks (output : Size) (sample : Cells) (blocks : List BlockRecord) : Type 0 where
  pub each : All (IsFileBlock output sample) blocks
  pub cells : block_cells blocks ≤ MOST_BOX_CELLS
