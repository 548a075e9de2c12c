-- There is one pick, and one next placement.
use Rattle.std.proofs.Common.{◌≡◌, ℕ, List, length, map, refl, ap, sym, ◌∙◌, subst, inl, inr}
use Rattle.std.proofs.lemmas.Option.{none-some, same_Some}
use Rattle.std.specs.Prelude.{Option, Some, None, slice_get}
use Rattle.cells.specs.declared.place.At.{At}
use Rattle.cells.specs.Cells.{Cells}
use Rattle.map_canvas.specs.declared.canvas.Placement.{Placement}
use Rattle.map_canvas.specs.Maps.{SourceMap}
use Rattle.match_error.specs.declared.error.Error.{Error}
use Rattle.match_error.specs.Errors.{error_of}
use Rattle.patch_picks.specs.declared.mode.Mode.{Mode}
use Rattle.patch_picks.specs.declared.mode.Mode.TheVariants.{Grid, Random, Whole, Sub}
use Rattle.patch_picks.specs.Draws.{DrawState, draw}
use Rattle.patch_picks.specs.Modes.{candidates}
use Rattle.patch_picks.specs.Picks.{AreEligible, IsPick, NoneIsFilled, ThereIsOnePick}
use Rattle.patch_picks.specs.Steps.{IsChosen, IsNextAt, ThereIsOneNext, tolerance}
use Rattle.patch_picks.proofs.BoxLists.{Contains-map}
use Rattle.patch_picks.proofs.SomeBest.{BestOrNone, best_or_none}

-- one list of candidates is eligible
same_list : (f : Placement → Error) (tol : Option ℕ) (list one other : List Placement) → AreEligible f tol list one → AreEligible f tol list other → one ≡ other
same_list f None list one other is also = is.all_alike refl ∙ sym (also.all_alike refl)
same_list f (Some t) list one other is also = by (best_or_none (map f list))
  where
    by : BestOrNone (map f list) → one ≡ other
    by (inr found) = is.near_best t refl found.0 found.1 ∙ sym (also.near_best t refl found.0 found.1)
    by (inl each) = is.none_filled none ∙ sym (also.none_filled none)
      where
        none : NoneIsFilled f list
        none candidate has = each (f candidate) (Contains-map f list candidate has)

pub one_pick : ThereIsOnePick
one_pick f tol list draws one other is also =
    same_Some one other (sym is.drawn ∙ ap (λ eligible. slice_get eligible (draw draws.seed draws.place (length eligible))) (same_list f tol list is.eligible also.eligible is.are also.are) ∙ also.drawn)

same_picked : (mode : Mode) (m : SourceMap) (sample : Cells) (draws : DrawState) (q : At) (one other : Placement) → IsPick (error_of m sample) (tolerance mode) (candidates mode m.size sample q) draws one → IsPick (error_of m sample) (tolerance mode) (candidates mode m.size sample q) draws other → one ≡ other
same_picked mode m sample draws q one other is also = one_pick (error_of m sample) (tolerance mode) (candidates mode m.size sample q) draws one other is also

same_chosen : (mode : Mode) (m : SourceMap) (sample : Cells) (draws : DrawState) (q : At) (one other : Placement) → IsChosen mode m sample draws q one → IsChosen mode m sample draws q other → one ≡ other
same_chosen (Grid overlap) m sample draws q one other is also = is ∙ sym also
same_chosen Random m sample draws q one other is also = same_picked Random m sample draws q one other is also
same_chosen (Whole tol) m sample draws q one other is also = same_picked (Whole tol) m sample draws q one other is also
same_chosen (Sub side overlap tol) m sample draws q one other is also = same_picked (Sub side overlap tol) m sample draws q one other is also

same_next : (mode : Mode) (m : SourceMap) (sample : Cells) (draws : DrawState) (one other : Placement) → IsNextAt mode m sample draws one → IsNextAt mode m sample draws other → one ≡ other
same_next mode m sample draws one other is also =
    same_chosen mode m sample draws is.q one other is.chosen (subst (λ q. IsChosen mode m sample draws q other) (same_Some also.q is.q (sym also.first ∙ is.first)) also.chosen)

pub one_next : ThereIsOneNext
one_next mode m sample draws left left_else None None is also = (refl, is.1 ∙ sym also.1)
one_next mode m sample draws left left_else None (Some other) is also = absurd (none-some also.0.q (sym is.0 ∙ also.0.first))
one_next mode m sample draws left left_else (Some one) None is also = absurd (none-some is.0.q (sym also.0 ∙ is.0.first))
one_next mode m sample draws left left_else (Some one) (Some other) is also = (ap Some (same_next mode m sample draws one other is.0 also.0), is.1 ∙ sym also.1)
