-- To be trusted: steps of growing, by where the next patch is laid, and which draws are taken for
-- it. (Own.)
use Rattle.std.specs.Prelude.{◌≡◌, ◌+◌, ◌%◌, ◌^◌, ℕ, Option, Some, None, IsSome, Result, Ok, Err}
use Rattle.std.specs.declared.alloc.AllocError.{AllocError}
use Rattle.cells.specs.declared.place.At.{At}
use Rattle.cells.specs.Cells.{Cells}
use Rattle.map_canvas.specs.declared.canvas.Placement.{Placement}
use Rattle.map_canvas.specs.Maps.{SourceMap, first_unfilled}
use Rattle.match_error.specs.Errors.{error_of}
use Rattle.patch_picks.specs.declared.mode.Mode.{Mode}
use Rattle.patch_picks.specs.declared.mode.Mode.TheVariants.{Grid, Random, Whole, Sub}
use Rattle.patch_picks.specs.Draws.{DrawState}
use Rattle.patch_picks.specs.Fitting.{FitsAndCovers}
use Rattle.patch_picks.specs.Modes.{candidates, grid_placement}
use Rattle.patch_picks.specs.Picks.{IsPick}

-- the draws after the next one; after number 2^64 - 1 the next one is number 0
abbrev pub after_draw : DrawState → DrawState
after_draw draws = record draws { place = (draws.place + 1) % 2 ^ 64 }

-- by how many hundredths a candidate may be worse than the best; nothing where all are eligible
abbrev pub tolerance : Mode → Option ℕ
tolerance (Grid overlap) = None
tolerance Random = None
tolerance (Whole tol) = Some tol
tolerance (Sub side overlap tol) = Some tol

-- the draws after a placement: the grid takes none, all other modes one
abbrev pub draws_after : Mode → DrawState → DrawState
draws_after (Grid overlap) draws = draws
draws_after Random draws = after_draw draws
draws_after (Whole tol) draws = after_draw draws
draws_after (Sub side overlap tol) draws = after_draw draws

-- a pick among the mode's candidates for a cell q
abbrev pub IsPicked : Mode → SourceMap → Cells → DrawState → At → Placement → Type 0
IsPicked mode m sample draws q placement =
    IsPick (error_of m sample) (tolerance mode) (candidates mode m.size sample q) draws placement

-- the placement that a mode makes for a cell q: in the grid the one candidate, of part 1, otherwise
-- a pick
abbrev pub IsChosen : Mode → SourceMap → Cells → DrawState → At → Placement → Type 0
IsChosen (Grid overlap) m sample draws q placement =
    placement ≡ grid_placement m.size sample.size overlap q
IsChosen Random m sample draws q placement = IsPicked Random m sample draws q placement
IsChosen (Whole tol) m sample draws q placement = IsPicked (Whole tol) m sample draws q placement
IsChosen (Sub side overlap tol) m sample draws q placement =
    IsPicked (Sub side overlap tol) m sample draws q placement

-- the next placement, made for the first unfilled cell q
pub record IsNextAt (mode : Mode) (m : SourceMap) (sample : Cells) (draws : DrawState)
    (placement : Placement) : Type 0 where
  pub q : At
  pub first : first_unfilled m ≡ Some q
  pub chosen : IsChosen mode m sample draws q placement
  pub fits : FitsAndCovers m.size sample q placement

-- what the answer of a step means, and which draws are left after it
abbrev pub IsNext :
    Mode → SourceMap → Cells → DrawState → DrawState → Result (Option Placement) AllocError → Type 0
IsNext mode m sample draws left (Ok None) = (first_unfilled m ≡ None) × (left ≡ draws)
IsNext mode m sample draws left (Ok (Some placement)) =
    IsNextAt mode m sample draws placement × (left ≡ draws_after mode draws)
IsNext mode m sample draws left (Err error) =
    IsSome (first_unfilled m) × IsSome (tolerance mode) × (left ≡ draws)

-- there is one answer that isn't the error, and one place of the draws after it
abbrev pub ThereIsOneNext : Type 0
ThereIsOneNext =
    (mode : Mode) (m : SourceMap) (sample : Cells) (draws left left_else : DrawState)
    (one other : Option Placement)
    → IsNext mode m sample draws left (Ok one) → IsNext mode m sample draws left_else (Ok other)
    → (one ≡ other) × (left ≡ left_else)
