-- A run so far, as the code keeps it, for the contracts within the crate. Nobody has to trust this
-- file. (Own.)
use Rattle.std.specs.Prelude.{All, ◌≡◌, ◌≤◌, ◌<◌, ◌+◌, true, false, Bool, None, Result, Ok, Err}
use Rattle.cells.specs.Cells.{Cells}
use Rattle.map_canvas.specs.Canvases.{IsCanvas, StandsOver}
use Rattle.map_canvas.specs.Maps.{IsFull, empty_map, first_unfilled}
use Rattle.cost_windows.specs.Tables.{WindowSums}
use Rattle.grown.specs.Rounds.{NoWindowCosts}
use Rattle.refine_seams.specs.Rounds.{SumsWindowsOf}
use Rattle.limits.specs.declared.bounds.TheConstants.{MOST_BOX_CELLS}
use Rattle.cut_check.specs.Records.{box_cells}
use Rattle.cut_replay.specs.Replay.{EachStands, IsFormed, left_by}
use Rattle.grown.specs.declared.plan.GrowPlan.{GrowPlan}
use Rattle.grown.specs.declared.plan.GrowError.{GrowError}
use Rattle.grow_run.specs.declared.steps.Work.{Work}
use Rattle.grown.specs.Grown.{Growth, IsDone, IsGrowFault, IsRun}

abbrev pub growth_of : Work → Growth
growth_of work = record { map = work.canvas.map; draws = work.draws; rounds = work.rounds }

pub record IsWork (plan : GrowPlan) (sample : Cells) (work : Work) : Type 0 where
  pub run : IsRun plan sample work.cuts.items (growth_of work)
  pub cells : work.cells ≡ box_cells work.cuts.items
  pub within : work.cells ≤ MOST_BOX_CELLS
  pub rounds : work.rounds ≤ plan.rounds
  pub formed : All IsFormed work.cuts.items
  pub stand : EachStands sample (empty_map plan.size) work.cuts.items
  pub left : left_by (empty_map plan.size) work.cuts.items ≡ work.canvas.map
  pub over : StandsOver work.canvas sample
  pub canvas : IsCanvas work.canvas

-- one step more, or none where no cell is unfilled
abbrev pub Advances : GrowPlan → Cells → Work → Work → Result Bool GrowError → Type 0
Advances plan sample was now (Ok true) = IsWork plan sample now × (was.cells < now.cells)
Advances plan sample was now (Ok false) =
    IsWork plan sample now × (first_unfilled now.canvas.map ≡ None)
Advances plan sample was now (Err error) = IsGrowFault plan sample error

-- all steps
abbrev pub LaysGrowth : GrowPlan → Cells → Result Work GrowError → Type 0
LaysGrowth plan sample (Ok now) = IsWork plan sample now × IsFull now.canvas.map
LaysGrowth plan sample (Err error) = IsGrowFault plan sample error

-- every cell is filled, and the table is right
pub record IsRefining (plan : GrowPlan) (sample : Cells) (work : Work)
    (table : WindowSums) : Type 0 where
  pub so_far : IsWork plan sample work
  pub full : IsFull work.canvas.map
  pub right : SumsWindowsOf plan.side work.canvas.map sample table

-- one round more, or none where no window costs anything
abbrev pub Refines :
    GrowPlan → Cells → Work → Work → WindowSums → Result Bool GrowError → Type 0
Refines plan sample was now table (Ok true) =
    IsRefining plan sample now table × (now.rounds ≡ was.rounds + 1)
Refines plan sample was now table (Ok false) =
    IsRefining plan sample now table × NoWindowCosts plan.side now.canvas.map sample
Refines plan sample was now table (Err error) = IsGrowFault plan sample error

-- all rounds
abbrev pub Ends : GrowPlan → Cells → Work → Result (Unit {0}) GrowError → Type 0
Ends plan sample now (Ok _) = IsWork plan sample now × IsDone plan sample (growth_of now)
Ends plan sample now (Err error) = IsGrowFault plan sample error
