-- A reader has to trust this file. Where the blocks of a quilt lie, on an axis of which the output
-- has T cells and the sample S. (Efros and Freeman 2001 lay blocks of one size in raster order,
-- each over a part of those before it.)
use Rattle.std.specs.Prelude.{◌≡◌, ℕ, ℤ, pos, min, nat_eq, if◌then◌else◌, Option, option_map}
use Rattle.cells.specs.declared.place.At.{At}
use Rattle.cells.specs.declared.place.Box3.{Box3}
use Rattle.cells.specs.declared.place.Size.{Size}
use Rattle.cells.specs.Boxes.{HasCells, HoldsBox}
use Rattle.cells.specs.Cells.{Cells}
use Rattle.boxes.specs.declared.spans.Span.{Span}
use Rattle.boxes.specs.Spans.{at_least_0, grid_on, grid_overlap}
use Rattle.boxes.specs.Rooms.{HasRoom}
use Rattle.map_canvas.specs.Maps.{SourceMap, first_unfilled}
use Rattle.block_strips.specs.declared.plan.QuiltPlan.{QuiltPlan}
use Rattle.block_strips.specs.declared.side.Side.{Side}
use Rattle.block_strips.specs.declared.side.Side.TheVariants.{Left, Top}

-- how long a block is: as the plan says, and at most as long as the output and the sample
abbrev pub block_len : ℕ → ℕ → QuiltPlan → ℕ
block_len T S plan = min plan.block (min S T)

-- by how many cells two blocks overlap: as the plan says, and at most by all but one of their own
abbrev pub block_overlap : ℕ → ℕ → QuiltPlan → ℕ
block_overlap T S plan = grid_overlap (block_len T S plan) plan.overlap

-- the block that has the coordinate q: the blocks lie in a grid, with that overlap, from 0 on, and
-- end with the output
abbrev pub block_on : ℕ → ℕ → QuiltPlan → ℕ → Span
block_on T S plan q = grid_on T (block_len T S plan) plan.overlap q

-- the box of one frame with these spans along X and Y
abbrev pub box_of : Span → Span → Box3
box_of x y = record {
  corner = record { x = pos x.corner; y = pos y.corner; f = pos 0 };
  size = record { w = x.len; h = y.len; f = 1 };
}

-- the block that has the cell q
abbrev pub block_at : QuiltPlan → Size → Size → At → Box3
block_at plan output sample q = box_of
    (block_on output.w sample.w plan (at_least_0 q.x))
    (block_on output.h sample.h plan (at_least_0 q.y))

-- the next block: the one that has the first unfilled cell, in raster order
abbrev pub next_box : QuiltPlan → SourceMap → Cells → Option Box3
next_box plan m sample = option_map (block_at plan m.size sample.size) (first_unfilled m)

-- by how many cells a block overlaps those before it; one that begins at 0 has none before it
abbrev pub shared_on : ℕ → ℕ → QuiltPlan → ℤ → ℕ
shared_on T S plan corner =
    if nat_eq (at_least_0 corner) 0 then 0 else block_overlap T S plan

-- the columns of a block's left strip, and the rows of its top strip
abbrev pub shared_cols : Side → QuiltPlan → Size → Size → Box3 → ℕ
shared_cols Left plan output sample rect = shared_on output.w sample.w plan rect.corner.x
shared_cols Top plan output sample rect = shared_on output.h sample.h plan rect.corner.y

-- a box with a cell in frame 0, which lies in the output and has a place in the sample
pub record FitsBlock (output sample : Size) (rect : Box3) : Type 0 where
  pub some : HasCells rect.size
  pub inside : HoldsBox output rect.corner rect.size
  pub room : HasRoom sample rect.size
  pub first_frame : rect.corner.f ≡ pos 0
  pub one_frame : rect.size.f ≡ 1
