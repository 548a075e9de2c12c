-- A reader has to trust this file. How many cells the boxes of placements have, in the modes in
-- which sizes alone say which box is laid for a cell. A placement fills its box, so the next box is
-- that for the first cell outside those before it, whatever is picked. (Own.)
use Rattle.std.specs.Prelude.{ℕ, Option, Some, None}
use Rattle.cells.specs.declared.place.At.{At}
use Rattle.cells.specs.declared.place.Box3.{Box3}
use Rattle.cells.specs.declared.place.Size.{Size}
use Rattle.cells.specs.Cells.{Cells}
use Rattle.boxes.specs.FirstBoxes.{BoxesPassAt, IsFirstPast}
use Rattle.patch_picks.specs.declared.mode.Mode.{Mode}
use Rattle.patch_picks.specs.declared.mode.Mode.TheVariants.{Grid, Random, Whole, Sub}
use Rattle.patch_picks.specs.Modes.{grid_placement, patch_box}
use Rattle.grown.specs.declared.plan.GrowPlan.{GrowPlan}
use Rattle.grown.specs.Grown.{PassesAt}

-- the box that a mode lays for a cell q, where the sizes of the output and the sample say it: that
-- of the copy in the grid, or of the patch
abbrev pub box_for : Mode → Size → Cells → At → Option Box3
box_for (Grid overlap) output sample q =
    Some (grid_placement output sample.size overlap q).rect
box_for Random output sample q = None
box_for (Whole tol) output sample q = None
box_for (Sub side overlap tol) output sample q = Some (patch_box output sample side overlap q)

-- the same of a plan
abbrev pub plan_box : GrowPlan → Cells → At → Option Box3
plan_box plan sample = box_for plan.mode plan.size sample

-- the cells at the first of these boxes that is too much; or no box is
abbrev pub PlanIsFirstPast : GrowPlan → Cells → Option ℕ → Type 0
PlanIsFirstPast plan sample = IsFirstPast (plan_box plan sample) plan.size

-- where these boxes pass the bound, the run does, at the same number
abbrev pub RunPassesThere : GrowPlan → Cells → Type 0
RunPassesThere plan sample =
    (number : ℕ) → BoxesPassAt (plan_box plan sample) plan.size number
    → PassesAt plan sample number
