-- To be trusted: picks, of a list of candidates one of those that are about as good as the best, by
-- a draw. (Efros and Freeman 2001 pick among the blocks within a tolerance of the best; that the
-- draw counts them in their order is own.)
use Rattle.std.specs.Prelude.{◌≡◌, ◌≤◌, ◌<◌, ◌*◌, ℕ, nat_lt, ◌&&◌, Bool, List, length, map, All, Contains, Option, Some, None, slice_get}
use Rattle.std.specs.List.{filter}
use Rattle.cells.specs.Cells.{Cells}
use Rattle.map_canvas.specs.declared.canvas.Placement.{Placement}
use Rattle.map_canvas.specs.Canvases.{CanvasState}
use Rattle.map_canvas.specs.Choices.{Fits}
use Rattle.match_error.specs.declared.error.Error.{Error}
use Rattle.match_error.specs.Errors.{error_of, is_within}
use Rattle.patch_picks.specs.declared.candidates.Candidates.{Candidates}
use Rattle.patch_picks.specs.Draws.{DrawState, draw}
use Rattle.patch_picks.specs.Lists.{listed}

-- of the errors with a filled cell one with the least error per filled cell
pub record IsBest (errors : List Error) (best : Error) : Type 0 where
  pub listed : Contains errors best
  pub filled : 1 ≤ best.count
  pub least : (other : Error) → Contains errors other → 1 ≤ other.count
      → best.sum * other.count ≤ other.sum * best.count

-- whether the error is within a tolerance of the best
abbrev pub is_eligible : ℕ → Error → Error → Bool
is_eligible tol best error = nat_lt 0 error.count && is_within tol best error

-- no candidate covers a filled cell
abbrev pub NoneIsFilled : (Placement → Error) → List Placement → Type 0
NoneIsFilled error list =
    (candidate : Placement) → Contains list candidate → (error candidate).count ≡ 0

-- the candidates within a tolerance of the best, in their order
abbrev pub near : (Placement → Error) → ℕ → Error → List Placement → List Placement
near error tol best list = filter (λ candidate. is_eligible tol best (error candidate)) list

-- the eligible candidates of a list, in their order: all of them without a tolerance, and where no
-- candidate covers a filled cell; otherwise those within the tolerance of the best
pub record AreEligible (error : Placement → Error) (tol : Option ℕ)
    (list eligible : List Placement) : Type 0 where
  pub all_alike : tol ≡ None → eligible ≡ list
  pub none_filled : NoneIsFilled error list → eligible ≡ list
  pub near_best : (t : ℕ) → tol ≡ Some t → (best : Error) → IsBest (map error list) best
      → eligible ≡ near error t best list

-- the eligible candidate whose number among them is the next draw
pub record IsPick (error : Placement → Error) (tol : Option ℕ) (list : List Placement)
    (draws : DrawState) (picked : Placement) : Type 0 where
  pub eligible : List Placement
  pub are : AreEligible error tol list eligible
  pub drawn : slice_get eligible (draw draws.seed draws.place (length eligible)) ≡ Some picked

-- the placements that candidates stand for over a canvas, and their overlap errors
abbrev pub listed_on : CanvasState → Cells → Candidates → List Placement
listed_on canvas sample list = listed list canvas.map.size sample

abbrev pub errors_on : CanvasState → Cells → Candidates → List Error
errors_on canvas sample list = map (error_of canvas.map sample) (listed_on canvas sample list)

-- there is one, and all of them fit
abbrev pub HasEntries : CanvasState → Cells → Candidates → Type 0
HasEntries canvas sample list = 0 < length (listed_on canvas sample list)

abbrev pub AllFit : CanvasState → Cells → Candidates → Type 0
AllFit canvas sample list = All (Fits canvas.map.size sample) (listed_on canvas sample list)

-- a pick among them
abbrev pub IsPickOn : CanvasState → Cells → Candidates → Option ℕ → DrawState → Placement → Type 0
IsPickOn canvas sample list tol draws picked =
    IsPick (error_of canvas.map sample) tol (listed_on canvas sample list) draws picked

-- of given errors, candidates and draws there is one pick
abbrev pub ThereIsOnePick : Type 0
ThereIsOnePick =
    (error : Placement → Error) (tol : Option ℕ) (list : List Placement) (draws : DrawState)
    (one other : Placement)
    → IsPick error tol list draws one → IsPick error tol list draws other → one ≡ other
