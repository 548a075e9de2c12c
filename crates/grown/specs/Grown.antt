-- A reader has to trust this file. Grown runs. (Kwatra et al. 2003 lay patches until the output is
-- full, and then refine it; that each patch is laid for the first unfilled cell, and which least
-- choice is taken, is own.)
use Rattle.std.specs.Prelude.{◌≡◌, ◌≤◌, ◌<◌, ◌+◌, ◌++◌, ◌⊎◌, ℕ, List, [], length, Option, Some, None, IsSome, Result, Ok, Err}
use Rattle.cells.specs.declared.place.At.{At}
use Rattle.cells.specs.declared.place.Size.{Size}
use Rattle.cells.specs.Cells.{Cells}
use Rattle.cells.specs.Distances.{distance}
use Rattle.cells.specs.Places.{cell_count}
use Rattle.map_canvas.specs.declared.canvas.Placement.{Placement}
use Rattle.map_canvas.specs.Canvases.{IsCanvas, StandsOver}
use Rattle.map_canvas.specs.Choices.{box_count, map_after}
use Rattle.map_canvas.specs.Maps.{IsFull, SourceMap, empty_map, first_unfilled}
use Rattle.patch_picks.specs.Draws.{DrawState}
use Rattle.patch_picks.specs.Steps.{IsNextAt, after_draw, draws_after}
use Rattle.cut_check.specs.declared.record.CutRecord.{CutRecord}
use Rattle.cut_check.specs.Records.{box_cells}
use Rattle.least_choice.specs.Fewest.{IsFewestHeld}
use Rattle.grown.specs.Rounds.{IsRoundAt, NoWindowCosts}
use Rattle.limits.specs.declared.bounds.TheConstants.{MOST_BOX_CELLS}
use Rattle.cut_replay.specs.Replay.{AreFileRecords, EachLeast, EachOver, EachStands, KeepsFixed, left_by}
use Rattle.grown.specs.declared.plan.GrowPlan.{GrowPlan}
use Rattle.grown.specs.declared.plan.Grown.{Grown}
use Rattle.grown.specs.declared.plan.GrowError.{GrowError}
use Rattle.grown.specs.declared.plan.GrowError.TheVariants.{Records, NoMemory}
use Rattle.patch_picks.specs.Runs.{Leads}

-- the map, the next draw, and how many rounds have been made
pub record Growth : Type 0 where
  pub map : SourceMap
  pub draws : DrawState
  pub rounds : ℕ

-- the placement that comes next: that of the mode for the first unfilled cell; where every cell is
-- filled, and a round is left, that of the round
abbrev pub ComesNextFor : GrowPlan → Cells → Growth → Option At → Placement → Type 0
ComesNextFor plan sample growth (Some q) placement =
    IsNextAt plan.mode growth.map sample growth.draws placement
ComesNextFor plan sample growth None placement =
    (growth.rounds < plan.rounds)
    × IsRoundAt plan.side plan.tol growth.map sample growth.draws placement

abbrev pub ComesNext : GrowPlan → Cells → Growth → Placement → Type 0
ComesNext plan sample growth = ComesNextFor plan sample growth (first_unfilled growth.map)

-- the draws after it, and the rounds
abbrev pub draws_left : GrowPlan → DrawState → Option At → DrawState
draws_left plan draws (Some q) = draws_after plan.mode draws
draws_left plan draws None = after_draw draws

abbrev pub rounds_made : ℕ → Option At → ℕ
rounds_made rounds (Some q) = rounds
rounds_made rounds None = rounds + 1

-- a step: the next placement, and of its least choices the one with the fewest old cells
pub record GrowsBy (plan : GrowPlan) (sample : Cells) (before : Growth) (cut : CutRecord)
    (after : Growth) : Type 0 where
  pub next : ComesNext plan sample before cut.placement
  pub choice_count : length cut.choice ≡ cell_count cut.placement.rect.size
  pub fewest : IsFewestHeld (distance sample) before.map cut.placement [] cut.choice
  pub map : after.map ≡ map_after before.map cut.placement cut.choice
  pub draws : after.draws ≡ draws_left plan before.draws (first_unfilled before.map)
  pub rounds : after.rounds ≡ rounds_made before.rounds (first_unfilled before.map)

-- at first no cell is filled, and draw number 0 of the seed comes next
abbrev pub first_growth : GrowPlan → Growth
first_growth plan = record {
  map = empty_map plan.size;
  draws = record { seed = plan.seed; place = 0 };
  rounds = 0;
}

-- a run: steps from there on, and what they leave
abbrev pub IsRun : GrowPlan → Cells → List CutRecord → Growth → Type 0
IsRun plan sample = Leads (GrowsBy plan sample) (first_growth plan)

-- the end: every cell is filled, and all rounds have been made, or no window costs anything
pub record IsDone (plan : GrowPlan) (sample : Cells) (growth : Growth) : Type 0 where
  pub full : IsFull growth.map
  pub rounds : (growth.rounds ≡ plan.rounds) ⊎ NoWindowCosts plan.side growth.map sample

-- the records of a run: first those that are laid, each over a map with an unfilled cell, and then
-- those of the rounds, each over a full map
pub record IsSplit (output : Size) (cuts : List CutRecord) (rounds : ℕ) : Type 0 where
  pub laid : List CutRecord
  pub refined : List CutRecord
  pub parts : cuts ≡ laid ++ refined
  pub placements : length laid + rounds ≡ length cuts
  pub count : length refined ≡ rounds
  pub unfilled : EachOver (λ m cut. IsSome (first_unfilled m)) (empty_map output) laid
  pub full : EachOver (λ m cut. IsFull m) (left_by (empty_map output) laid) refined

-- what is left at the end: the whole run, and its records over one another
pub record IsGrown (plan : GrowPlan) (sample : Cells) (grown : Grown) : Type 0 where
  pub draws : DrawState
  pub run : IsRun plan sample grown.cuts
      (record { map = grown.canvas.map; draws = draws; rounds = grown.rounds })
  pub done : IsDone plan sample
      (record { map = grown.canvas.map; draws = draws; rounds = grown.rounds })
  pub split : IsSplit plan.size grown.cuts grown.rounds
  pub size : grown.canvas.map.size ≡ plan.size
  pub left : left_by (empty_map plan.size) grown.cuts ≡ grown.canvas.map
  pub canvas : IsCanvas grown.canvas
  pub over : StandsOver grown.canvas sample
  pub stand : EachStands sample (empty_map plan.size) grown.cuts
  pub least : EachLeast sample (empty_map plan.size) grown.cuts
  pub keep : EachOver KeepsFixed (empty_map plan.size) grown.cuts
  pub writable : AreFileRecords plan.size sample grown.cuts

-- the first box that takes the cells of all boxes past their bound, and these cells
pub record PassesAt (plan : GrowPlan) (sample : Cells) (number : ℕ) : Type 0 where
  pub cuts : List CutRecord
  pub growth : Growth
  pub placement : Placement
  pub run : IsRun plan sample cuts growth
  pub within : box_cells cuts ≤ MOST_BOX_CELLS
  pub next : ComesNext plan sample growth placement
  pub cells : number ≡ box_cells cuts + box_count placement
  pub past : MOST_BOX_CELLS < number

-- why nothing is grown
abbrev pub IsGrowFault : GrowPlan → Cells → GrowError → Type 0
IsGrowFault plan sample (Records number) = PassesAt plan sample number
IsGrowFault plan sample NoMemory = Unit {0}

-- what growing answers
abbrev pub Grows : GrowPlan → Cells → Result Grown GrowError → Type 0
Grows plan sample (Ok grown) = IsGrown plan sample grown
Grows plan sample (Err error) = IsGrowFault plan sample error
