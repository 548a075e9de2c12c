-- A reader has to trust this file. What a round of refinement lays: the window of greatest cost is
-- laid again. (Kwatra et al. 2003 refine an output where its seams cost the most; the size of the
-- windows, and which of them comes first, are own.)
use Rattle.std.specs.Prelude.{◌≡◌, ◌≤◌, ℕ, Some}
use Rattle.cells.specs.declared.place.At.{At}
use Rattle.cells.specs.declared.place.Box3.{Box3}
use Rattle.cells.specs.Boxes.{HasCells}
use Rattle.cells.specs.Cells.{Cells}
use Rattle.cells.specs.Distances.{distance}
use Rattle.map_canvas.specs.declared.canvas.Placement.{Placement}
use Rattle.map_canvas.specs.Choices.{Fits}
use Rattle.map_canvas.specs.Maps.{SourceMap, map_at}
use Rattle.match_error.specs.Errors.{error_of}
use Rattle.cost_windows.specs.Windows.{IsWorst, window_at}
use Rattle.patch_picks.specs.Draws.{DrawState}
use Rattle.patch_picks.specs.Lists.{fit_list, part_lists}
use Rattle.patch_picks.specs.Modes.{window}
use Rattle.patch_picks.specs.Picks.{IsPick}

-- of the windows of a side inside a map the worst, and its sum
pub record IsWorstAt (side : ℕ) (m : SourceMap) (sample : Cells) (corner : At)
    (sum : ℕ) : Type 0 where
  pub worst : IsWorst (distance sample) m.size (map_at m) (window side m.size sample) corner
  pub is_sum : sum ≡ window_at (distance sample) (window side m.size sample) (map_at m) corner

-- the worst window, whose seams cost something
pub record IsWorstBox (side : ℕ) (m : SourceMap) (sample : Cells) (rect : Box3) : Type 0 where
  pub size : rect.size ≡ window side m.size sample
  pub cells : HasCells rect.size
  pub sum : ℕ
  pub worst : IsWorstAt side m sample rect.corner sum
  pub some : 1 ≤ sum

-- the seams of the worst window cost nothing, and so those of no window do
pub record NoWindowCosts (side : ℕ) (m : SourceMap) (sample : Cells) : Type 0 where
  pub corner : At
  pub worst : IsWorstAt side m sample corner 0

-- the placement of a round: for the worst window a pick among all places of the sample where it
-- fits, within a tolerance of the best
pub record IsRoundAt (side tol : ℕ) (m : SourceMap) (sample : Cells) (draws : DrawState)
    (placement : Placement) : Type 0 where
  pub rect : Box3
  pub worst : IsWorstBox side m sample rect
  pub picked : IsPick (error_of m sample) (Some tol) (part_lists (fit_list rect) sample)
      draws placement
  pub fits : Fits m.size sample placement

-- there is one placement of a round
abbrev pub ThereIsOneRound : Type 0
ThereIsOneRound =
    (side tol : ℕ) (m : SourceMap) (sample : Cells) (draws : DrawState) (one other : Placement)
    → IsRoundAt side tol m sample draws one → IsRoundAt side tol m sample draws other → one ≡ other

-- and none where no window costs anything
abbrev pub NoRoundIsIdle : Type 0
NoRoundIsIdle =
    (side tol : ℕ) (m : SourceMap) (sample : Cells) (draws : DrawState) (placement : Placement)
    → IsRoundAt side tol m sample draws placement → NoWindowCosts side m sample → ⊥
