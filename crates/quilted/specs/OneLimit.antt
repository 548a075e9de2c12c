-- A reader has to trust this file. What holds of the limit of all quilts: it excludes a run to the
-- end, there is one number, a run that passes the bound does so at it, and there is such a run. (Own.)
use Rattle.std.specs.Prelude.{◌≡◌, ◌≤◌, ◌<◌, ◌+◌, ℕ, List, Some}
use Rattle.cells.specs.declared.place.Box3.{Box3}
use Rattle.cells.specs.Cells.{Cells}
use Rattle.cells.specs.Places.{cell_count}
use Rattle.block_strips.specs.Blocks.{next_box}
use Rattle.block_check.specs.declared.block.BlockRecord.{BlockRecord}
use Rattle.quilted.specs.Runs.{IsQuilted, Quilting, QuiltsTo, Rating, first_quilting}
use Rattle.limits.specs.declared.bounds.TheConstants.{MOST_BOX_CELLS}
use Rattle.quilted.specs.declared.asked.QuiltRun.{QuiltRun}
use Rattle.block_check.specs.Blocks.{block_cells}
use Rattle.quilted.specs.Quilted.{QuiltPassesAt}

-- a run that ends with boxes within the bound passes it nowhere
abbrev pub QuiltEndsWithin : Rating → QuiltRun → Cells → Type 0
QuiltEndsWithin rating asked sample =
    (blocks : List BlockRecord) (after : Quilting) (number : ℕ)
    → IsQuilted rating asked.plan sample asked.size asked.seed blocks after
    → block_cells blocks ≤ MOST_BOX_CELLS
    → QuiltPassesAt asked sample number → ⊥

-- and the bound is passed at one number
abbrev pub OneQuiltLimit : QuiltRun → Cells → Type 0
OneQuiltLimit asked sample =
    (number other : ℕ) → QuiltPassesAt asked sample number → QuiltPassesAt asked sample other
    → number ≡ other

-- a run so far whose next box takes the cells of all boxes past the bound, and these cells
pub record RunPassesAt (rating : Rating) (asked : QuiltRun) (sample : Cells) (number : ℕ)
    : Type 0 where
  pub blocks : List BlockRecord
  pub so_far : Quilting
  pub run : QuiltsTo rating asked.plan sample (first_quilting asked.size asked.seed) blocks so_far
  pub within : block_cells blocks ≤ MOST_BOX_CELLS
  pub rect : Box3
  pub next : next_box asked.plan so_far.map sample ≡ Some rect
  pub cells : number ≡ block_cells blocks + cell_count rect.size
  pub past : MOST_BOX_CELLS < number

-- such a run passes it at that number
abbrev pub RunsPassThere : Rating → QuiltRun → Cells → Type 0
RunsPassThere rating asked sample =
    (number : ℕ) → RunPassesAt rating asked sample number → QuiltPassesAt asked sample number

-- and where the blocks of the plan pass it, there is such a run
abbrev pub RunPassesWhereBlocksDo : Rating → QuiltRun → Cells → Type 0
RunPassesWhereBlocksDo rating asked sample =
    (number : ℕ) → QuiltPassesAt asked sample number → RunPassesAt rating asked sample number
