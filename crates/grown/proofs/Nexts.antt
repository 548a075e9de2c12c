-- The next placement: it fits, there is one, and none at the end.
use Rattle.std.proofs.Common.{◌≡◌, refl, sym, subst, arith, inl, inr}
use Rattle.std.proofs.lemmas.Option.{same_Some}
use Rattle.std.specs.Prelude.{Option, Some, None}
use Rattle.cells.specs.declared.place.At.{At}
use Rattle.cells.specs.Cells.{Cells, IsVolume}
use Rattle.map_canvas.specs.declared.canvas.Placement.{Placement}
use Rattle.map_canvas.specs.Choices.{Fits}
use Rattle.map_canvas.specs.Maps.{IsMap, first_unfilled}
use Rattle.map_canvas.proofs.Unfilled.{full_is_whole}
use Rattle.patch_picks.specs.Steps.{draws_after}
use Rattle.patch_picks.proofs.OnePick.{one_next}
use Rattle.cut_check.specs.declared.record.CutRecord.{CutRecord}
use Rattle.grown.proofs.OneRound.{none_idle, one_round}
use Rattle.map_canvas.proofs.MapsAfter.{after_is_map}
use Rattle.grown.specs.declared.plan.GrowPlan.{GrowPlan}
use Rattle.grown.specs.Grown.{ComesNext, ComesNextFor, Growth, GrowsBy, IsDone}

module _ (plan : GrowPlan) (sample : Cells) (growth : Growth) where
  fits_for : (placement : Placement) (o : Option At) → ComesNextFor plan sample growth o placement → Fits growth.map.size sample placement
  fits_for placement (Some q) is = is.fits.fits
  fits_for placement None is = is.1.fits

  pub next_fits : (placement : Placement) → ComesNext plan sample growth placement → Fits growth.map.size sample placement
  next_fits placement next = fits_for placement (first_unfilled growth.map) next

  one_for : (one other : Placement) (o : Option At) → ComesNextFor plan sample growth o one → ComesNextFor plan sample growth o other → one ≡ other
  one_for one other (Some q) is also =
      same_Some one other (one_next plan.mode growth.map sample growth.draws (draws_after plan.mode growth.draws) (draws_after plan.mode growth.draws) (Some one) (Some other) (is, refl) (also, refl)).0
  one_for one other None is also = one_round plan.side plan.tol growth.map sample growth.draws one other is.1 also.1

  pub next_is_one : (one other : Placement) → ComesNext plan sample growth one → ComesNext plan sample growth other → one ≡ other
  next_is_one one other is also = one_for one other (first_unfilled growth.map) is also

  none_for : (placement : Placement) → IsDone plan sample growth → ComesNextFor plan sample growth None placement → ⊥
  none_for placement done next = elim done.rounds [
    | inl all ↦ omega (arith, all, next.0)
    | inr calm ↦ none_idle plan.side plan.tol growth.map sample growth.draws placement next.1 calm
  ]

  pub none_at_end : (placement : Placement) → IsMap growth.map → ComesNext plan sample growth placement → IsDone plan sample growth → ⊥
  none_at_end placement is next done = none_for placement done (subst (λ o. ComesNextFor plan sample growth o placement) (full_is_whole growth.map is done.full) next)

-- a step leaves a map
pub stays_map : (plan : GrowPlan) (sample : Cells) (was now : Growth) (cut : CutRecord) → IsVolume sample → GrowsBy plan sample was cut now → IsMap was.map → IsMap now.map
stays_map plan sample was now cut volume step is =
    subst IsMap (sym step.map) (after_is_map was.map sample cut.placement cut.choice volume is (next_fits plan sample was cut.placement step.next))
