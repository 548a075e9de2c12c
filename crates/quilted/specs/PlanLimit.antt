-- A reader has to trust this file. How many cells the blocks of a plan have, which depends on sizes
-- and the plan alone. (Own.)
use Rattle.std.specs.Prelude.{ℕ, Option}
use Rattle.cells.specs.declared.place.Size.{Size}
use Rattle.boxes.specs.FirstBoxes.{BoxesPassAt, BoxesStayWithin, IsFirstPast}
use Rattle.block_strips.specs.declared.plan.QuiltPlan.{QuiltPlan}
use Rattle.block_strips.specs.Laid.{plan_block}

-- the first block of a plan that takes the cells of all blocks past their bound, and these cells
abbrev pub PlanPassesAt : QuiltPlan → Size → Size → ℕ → Type 0
PlanPassesAt plan output sample = BoxesPassAt (plan_block plan output sample) output

-- no block takes them past it
abbrev pub PlanStaysWithin : QuiltPlan → Size → Size → Type 0
PlanStaysWithin plan output sample = BoxesStayWithin (plan_block plan output sample) output

-- the cells at the first block that is too much, or nothing
abbrev pub PlanIsFirstPast : QuiltPlan → Size → Size → Option ℕ → Type 0
PlanIsFirstPast plan output sample = IsFirstPast (plan_block plan output sample) output
