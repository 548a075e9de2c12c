-- A reader has to trust this file. What the record of a block says of its cells. (Efros and Freeman
-- 2001 cut along a boundary through each strip; that a cell of two strips is new where both
-- boundaries call it so is own.)
use Rattle.std.specs.Prelude.{◌≡◌, ◌≤◌, ◌<◌, ◌+◌, ◌*◌, ◌/◌, ◌%◌, ◌⊎◌, ◌↔◌, ◌&&◌, ◌||◌, ℕ, nat_le, Bool, true, List, [], ◌∷◌, length, map, slice_index, Option, Some, None, IfSome, pos}
use Rattle.std.specs.List.{range_with_len}
use Rattle.cells.specs.declared.place.At.{At}
use Rattle.cells.specs.Boxes.{IsInBox}
use Rattle.cells.specs.Cells.{Cells}
use Rattle.cells.specs.Places.{cell_count}
use Rattle.map_canvas.specs.declared.canvas.Placement.{Placement}
use Rattle.map_canvas.specs.Choices.{map_after}
use Rattle.map_canvas.specs.Maps.{IsFilled, SourceMap}
use Rattle.strip_boundary.specs.declared.boundary.BoundaryRecord.{BoundaryRecord}
use Rattle.strip_boundary.specs.Strips.{ErrorTable}
use Rattle.block_strips.specs.declared.side.Side.{Side}
use Rattle.block_strips.specs.declared.side.Side.TheVariants.{Left, Top}
use Rattle.block_strips.specs.Strips.{col_on, most_cols, row_on, strip_of, strip_rows}
use Rattle.block_check.specs.declared.block.BlockRecord.{BlockRecord}

-- the strip columns of a side: one sum for each cell of a boundary's strip; without a boundary none
abbrev pub cols_of : ℕ → Option BoundaryRecord → ℕ
cols_of rows None = 0
cols_of rows (Some boundary) = length boundary.sums / rows

abbrev pub cols_on : Side → Placement → Option BoundaryRecord → ℕ
cols_on side placement boundary = cols_of (strip_rows side placement.rect.size) boundary

-- the boundary of a block on a side, and its strip columns there
abbrev pub boundary_on : Side → BlockRecord → Option BoundaryRecord
boundary_on Left block = block.left
boundary_on Top block = block.top

abbrev pub strip_cols : Side → BlockRecord → ℕ
strip_cols side block = cols_on side block.placement (boundary_on side block)

-- a strip of the block has the cell in column x and row y
abbrev pub IsInStrip : BlockRecord → ℕ → ℕ → Type 0
IsInStrip block x y = (x < strip_cols Left block) ⊎ (y < strip_cols Top block)

-- what a boundary says of the cell in a strip row and a strip column: it calls a cell of its strip
-- new from its own column on, and lets every other cell be new
abbrev pub lets_new : ℕ → Option BoundaryRecord → ℕ → ℕ → Bool
lets_new cols None row col = true
lets_new cols (Some boundary) row col =
    nat_le cols col || nat_le (slice_index boundary.path row) col

abbrev pub side_lets_new : Side → BlockRecord → ℕ → ℕ → Bool
side_lets_new side block x y =
    lets_new (strip_cols side block) (boundary_on side block) (row_on side x y) (col_on side x y)

-- a cell of the block is new where each strip that has it calls it new
abbrev pub block_lets_new : BlockRecord → ℕ → ℕ → Bool
block_lets_new block x y = side_lets_new Left block x y && side_lets_new Top block x y

-- the same of the cell at an index in raster order
abbrev pub is_new_at : BlockRecord → ℕ → Bool
is_new_at block i = block_lets_new block
    (i % block.placement.rect.size.w)
    (i / block.placement.rect.size.w % block.placement.rect.size.h)

-- the choice of a block: of each of its cells, in raster order, whether it is new
abbrev pub new_cells : BlockRecord → List Bool
new_cells block =
    map (is_new_at block) (range_with_len 0 (cell_count block.placement.rect.size))

-- the map after a block
abbrev pub after_block : SourceMap → BlockRecord → SourceMap
after_block m block = map_after m block.placement (new_cells block)

-- after a block, the filled cells are those that were filled before, and those of the block
abbrev pub FillsBlock : SourceMap → BlockRecord → SourceMap → Type 0
FillsBlock m block after =
    (p : At) → IsFilled after p ↔ (IsFilled m p ⊎ IsInBox block.placement.rect p)

-- the strip of a boundary on a side of a placement
abbrev pub strip_on : Side → SourceMap → Cells → Placement → Option BoundaryRecord → ErrorTable
strip_on side m sample placement boundary =
    strip_of side m sample placement (cols_on side placement boundary)

-- a boundary has a sum for each cell of a strip from 1 to so many columns wide
pub record HasColumns (rows most : ℕ) (boundary : BoundaryRecord) : Type 0 where
  pub cols : ℕ
  pub some : 1 ≤ cols
  pub most_of : cols ≤ most
  pub count : length boundary.sums ≡ rows * cols

abbrev pub HasColumnsOn : Side → Placement → Option BoundaryRecord → Type 0
HasColumnsOn side placement boundary = IfSome boundary (HasColumns
    (strip_rows side placement.rect.size) (most_cols side placement.rect.size))

-- the block has a cell and lies in frame 0, and so have its boundaries
pub record IsFormedBlock (block : BlockRecord) : Type 0 where
  pub w : 1 ≤ block.placement.rect.size.w
  pub h : 1 ≤ block.placement.rect.size.h
  pub first_frame : block.placement.rect.corner.f ≡ pos 0
  pub one_frame : block.placement.rect.size.f ≡ 1
  pub left : HasColumnsOn Left block.placement block.left
  pub top : HasColumnsOn Top block.placement block.top

-- how many cells the boxes of blocks have, all together
abbrev pub block_cells : List BlockRecord → ℕ
block_cells [] = 0
block_cells (block ∷ blocks) = cell_count block.placement.rect.size + block_cells blocks
