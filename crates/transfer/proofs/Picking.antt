-- What a pick among the placements of a box gives.
use Rattle.std.proofs.Common.{◌≡◌, ℕ, List, sym, ◌∙◌, subst₂}
use Rattle.std.proofs.lemmas.List.Elements.{All-contains, All-contains_itself, All-weaker}
use Rattle.std.specs.Prelude.{All, Contains, IfOk, Ok, Err, Some, Result}
use Rattle.std.specs.declared.alloc.AllocError.{AllocError}
use Rattle.cells.specs.declared.place.Box3.{Box3}
use Rattle.cells.specs.Cells.{Cells}
use Rattle.map_canvas.specs.declared.canvas.Placement.{Placement}
use Rattle.map_canvas.specs.Canvases.{CanvasState}
use Rattle.map_canvas.specs.Choices.{Fits}
use Rattle.patch_picks.specs.Draws.{DrawState}
use Rattle.patch_picks.specs.Lists.{fit_list, part_lists}
use Rattle.patch_picks.specs.Picks.{IsPick}
use Rattle.quilted.proofs.Picking.{listed_has_box}
use Rattle.transfer.specs.declared.weighing.Weighing.{Weighing}
use Rattle.targets.specs.Targets.{by_target}
use Rattle.transfer.specs.Weighing.{IsWeighed, IsWeighingOf, weighed_error}
use Rattle.transfer.proofs.SamePicks.{same_pick}

module _ (alpha : ℕ) (target : Cells) (rect : Box3) (canvas : CanvasState) (sample : Cells) (e : Weighing) (of : IsWeighingOf alpha target rect canvas sample e)
    (fit : All (Fits canvas.map.size sample) (part_lists (fit_list rect) sample)) where
  abbrev list : List Placement
  list = part_lists (fit_list rect) sample

  fits : (p : Placement) → Contains list p → Fits canvas.map.size sample p
  fits p has = All-contains (Fits canvas.map.size sample) list p fit has

  pub all_asked : All (IsWeighed e) list
  all_asked = All-weaker (Contains list) (IsWeighed e) (λ p has. record {
    box = listed_has_box rect sample p has ∙ sym of.rect_is;
    fits = subst₂ (λ (a : CanvasState) (v : Cells). Fits a.map.size v p) (sym of.canvas_is) (sym of.sample_is) (fits p has);
  }) list (All-contains_itself list)

  all_same : All (λ p. weighed_error e p ≡ by_target alpha target sample canvas.map p) list
  all_same = All-weaker (Contains list) (λ p. weighed_error e p ≡ by_target alpha target sample canvas.map p)
      (λ p has. of.errors p (listed_has_box rect sample p has) (fits p has)) list (All-contains_itself list)

  pub picked_by_target : (tol : ℕ) (draws : DrawState) (answer : Result Placement AllocError) → IfOk answer (IsPick (weighed_error e) (Some tol) list draws) → IfOk answer (IsPick (by_target alpha target sample canvas.map) (Some tol) list draws)
  picked_by_target tol draws (Ok p) is = same_pick (weighed_error e) (by_target alpha target sample canvas.map) (Some tol) list draws p all_same is
  picked_by_target tol draws (Err error) is = tt

  pub picked_box : (answer : Result Placement AllocError) → IfOk answer (IsWeighed e) → IfOk answer (λ p. p.rect ≡ rect)
  picked_box (Ok p) asked = asked.box ∙ of.rect_is
  picked_box (Err error) asked = tt

  pub picked_fits : (answer : Result Placement AllocError) → IfOk answer (IsWeighed e) → IfOk answer (Fits canvas.map.size sample)
  picked_fits (Ok p) asked = subst₂ (λ (a : CanvasState) (v : Cells). Fits a.map.size v p) of.canvas_is of.sample_is asked.fits
  picked_fits (Err error) asked = tt
