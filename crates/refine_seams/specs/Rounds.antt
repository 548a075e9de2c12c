-- A reader has to trust this file. Rounds of refinement as they are made: what each changes, and what
-- its answer means. Which placement a round lays is said in Rounds of grown. (Kwatra et al. 2003 refine an
-- output where its seams cost the most.)
use Rattle.std.specs.Prelude.{◌≡◌, ℕ, [], Option, Some, None, Result, Ok, Err}
use Rattle.std.specs.declared.alloc.AllocError.{AllocError}
use Rattle.cells.specs.declared.place.Box3.{Box3}
use Rattle.cells.specs.Cells.{Cells}
use Rattle.cells.specs.Distances.{distance}
use Rattle.map_canvas.specs.Canvases.{CanvasState}
use Rattle.map_canvas.specs.Maps.{SourceMap, map_at}
use Rattle.cost_windows.specs.Tables.{IsRight, WindowSums}
use Rattle.patch_picks.specs.Draws.{DrawState}
use Rattle.patch_picks.specs.Modes.{window}
use Rattle.patch_picks.specs.Steps.{after_draw}
use Rattle.cut_check.specs.declared.record.CutRecord.{CutRecord}
use Rattle.graph_place.specs.Placed.{IsPlaced}
use Rattle.grown.specs.Rounds.{IsRoundAt, IsWorstBox, NoWindowCosts}

-- the window of a round, where there is one
abbrev pub IsRoundBox : ℕ → SourceMap → Cells → Option Box3 → Type 0
IsRoundBox side m sample None = NoWindowCosts side m sample
IsRoundBox side m sample (Some rect) = IsWorstBox side m sample rect

-- what a round changes
pub record RoundState : Type 0 where
  pub canvas : CanvasState
  pub draws : DrawState
  pub table : WindowSums

-- the table has the sums of the windows of a map
pub record SumsWindowsOf (side : ℕ) (m : SourceMap) (sample : Cells)
    (table : WindowSums) : Type 0 where
  pub output : table.output ≡ m.size
  pub window : table.window ≡ window side m.size sample
  pub right : IsRight (distance sample) (map_at m) table

-- a round: its placement is put in by a graph cut, and takes one draw
pub record IsRound (side tol : ℕ) (sample : Cells) (was : RoundState) (cut : CutRecord)
    (now : RoundState) : Type 0 where
  pub next : IsRoundAt side tol was.canvas.map sample was.draws cut.placement
  pub placed : IsPlaced was.canvas sample cut.placement [] now.canvas cut
  pub draws : now.draws ≡ after_draw was.draws
  pub table : SumsWindowsOf side now.canvas.map sample now.table

-- there is a round, and nothing of it is made
pub record IsLeftOut (side : ℕ) (sample : Cells) (was now : RoundState) : Type 0 where
  pub rect : Box3
  pub worst : IsWorstBox side was.canvas.map sample rect
  pub same : now ≡ was

-- what the answer of a round means
abbrev pub Rounds : ℕ → ℕ → Cells → RoundState → RoundState
    → Result (Option CutRecord) AllocError → Type 0
Rounds side tol sample was now (Ok None) =
    NoWindowCosts side was.canvas.map sample × (now ≡ was)
Rounds side tol sample was now (Ok (Some cut)) = IsRound side tol sample was cut now
Rounds side tol sample was now (Err error) = IsLeftOut side sample was now
