-- A reader has to trust this file. What holds of all grown runs: there is one of a plan and a
-- sample, and no round raises the total. (Own.)
use Rattle.std.specs.Prelude.{◌≡◌, ◌≤◌, ℕ, List}
use Rattle.std.specs.List.{AllZip}
use Rattle.cells.specs.Cells.{Cells}
use Rattle.map_canvas.specs.Maps.{IsFull, IsMap}
use Rattle.cut_check.specs.declared.record.CutRecord.{CutRecord}
use Rattle.cut_check.specs.Records.{box_cells}
use Rattle.least_choice.specs.Totals.{map_total}
use Rattle.limits.specs.declared.bounds.TheConstants.{MOST_BOX_CELLS}
use Rattle.grown.specs.declared.plan.GrowPlan.{GrowPlan}
use Rattle.grown.specs.Grown.{Growth, GrowsBy, IsDone, IsRun, IsSplit, PassesAt}
use Rattle.patch_picks.specs.Runs.{Leads}

-- the same but for the flows, which the definition of a run leaves free
pub record SameButFlows (one other : CutRecord) : Type 0 where
  pub placement : one.placement ≡ other.placement
  pub choice : one.choice ≡ other.choice

-- the records of two runs are, and both leave the same
pub record IsSameRun (cuts others : List CutRecord) (growth other : Growth) : Type 0 where
  pub steps : AllZip SameButFlows cuts others
  pub left : growth ≡ other

-- two runs to their ends are the same
abbrev pub OneRun : GrowPlan → Cells → Type 0
OneRun plan sample =
    (cuts others : List CutRecord) (growth other : Growth)
    → IsRun plan sample cuts growth → IsDone plan sample growth
    → IsRun plan sample others other → IsDone plan sample other
    → IsSameRun cuts others growth other

-- a run that ends with boxes within the bound passes it nowhere
abbrev pub EndsWithin : GrowPlan → Cells → Type 0
EndsWithin plan sample =
    (cuts : List CutRecord) (growth : Growth) (number : ℕ)
    → IsRun plan sample cuts growth → IsDone plan sample growth → box_cells cuts ≤ MOST_BOX_CELLS
    → PassesAt plan sample number → ⊥

-- and the bound is passed at one number
abbrev pub OneLimit : GrowPlan → Cells → Type 0
OneLimit plan sample =
    (number other : ℕ) → PassesAt plan sample number → PassesAt plan sample other → number ≡ other

-- a step over a full map, which is a round, doesn't raise the total
abbrev pub NoneRaises : GrowPlan → Cells → Type 0
NoneRaises plan sample =
    (before after : Growth) (cut : CutRecord) → IsMap before.map → IsFull before.map
    → GrowsBy plan sample before cut after
    → map_total sample after.map ≤ map_total sample before.map

-- nor do any steps from a full map on
abbrev pub NoneRaise : GrowPlan → Cells → Type 0
NoneRaise plan sample =
    (before after : Growth) (cuts : List CutRecord) → IsMap before.map → IsFull before.map
    → Leads (GrowsBy plan sample) before cuts after
    → map_total sample after.map ≤ map_total sample before.map

-- in each run the rounds follow what is laid
abbrev pub RoundsFollow : GrowPlan → Cells → Type 0
RoundsFollow plan sample =
    (cuts : List CutRecord) (growth : Growth) → IsRun plan sample cuts growth
    → IsSplit plan.size cuts growth.rounds
