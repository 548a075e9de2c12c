-- A reader has to trust this file. Canvases on which the first blocks of a plan are laid. (Own.)
use Rattle.std.specs.Prelude.{◌≡◌, ◌<◌, ◌⊎◌, ◌↔◌, ℕ, List, Option, Some}
use Rattle.cells.specs.declared.place.At.{At}
use Rattle.cells.specs.declared.place.Box3.{Box3}
use Rattle.cells.specs.declared.place.Size.{Size}
use Rattle.cells.specs.Boxes.{IsInBox, IsInOne, cell_in}
use Rattle.cells.specs.Cells.{Cells}
use Rattle.cells.specs.Places.{IsInside}
use Rattle.boxes.specs.FirstBoxes.{AreFirstBoxes}
use Rattle.map_canvas.specs.Maps.{SourceMap, IsFilled, empty_map}
use Rattle.block_strips.specs.declared.plan.QuiltPlan.{QuiltPlan}
use Rattle.block_strips.specs.declared.side.Side.TheVariants.{Left, Top}
use Rattle.block_strips.specs.Blocks.{block_at, shared_cols}

-- the box that a plan lays for a cell: that of the block that has it
abbrev pub plan_block : QuiltPlan → Size → Size → At → Option Box3
plan_block plan output sample q = Some (block_at plan output sample q)

-- the filled cells of the map are exactly those of the first blocks of the plan, of which there may
-- be none
pub record IsLaidByBlocks (plan : QuiltPlan) (sample : Cells) (m : SourceMap) : Type 0 where
  pub rects : List Box3
  pub blocks : AreFirstBoxes (plan_block plan m.size sample.size) m.size rects
  pub filled : (p : At) → IsInside m.size p → IsFilled m p ↔ IsInOne rects p

-- the filled cells of a block are exactly those of its strips, each of which fits in the block
pub record SharesStrips (plan : QuiltPlan) (sample : Cells) (m : SourceMap)
    (rect : Box3) : Type 0 where
  pub left : shared_cols Left plan m.size sample.size rect < rect.size.w
  pub top : shared_cols Top plan m.size sample.size rect < rect.size.h
  pub filled : (x y : ℕ) → x < rect.size.w → y < rect.size.h
      → IsFilled m (cell_in rect x y 0)
      ↔ ((x < shared_cols Left plan m.size sample.size rect)
      ⊎ (y < shared_cols Top plan m.size sample.size rect))

-- with the cells of the block filled too, a map is laid for the plan
abbrev pub StaysLaid : QuiltPlan → Cells → SourceMap → Box3 → Type 0
StaysLaid plan sample m rect =
    (after : SourceMap) → after.size ≡ m.size
    → ((p : At) → IsInside m.size p → IsFilled after p ↔ (IsFilled m p ⊎ IsInBox rect p))
    → IsLaidByBlocks plan sample after

-- a map with no cell filled is laid for each plan
abbrev pub EmptyIsLaid : Type 0
EmptyIsLaid =
    (plan : QuiltPlan) (sample : Cells) (size : Size) → IsLaidByBlocks plan sample (empty_map size)
