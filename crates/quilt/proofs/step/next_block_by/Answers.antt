use Rattle.std.proofs.Common.{◌≡◌, ap, refl, sym, ◌∙◌, subst}
use Rattle.std.proofs.lemmas.Option.{none-some}
use Rattle.std.proofs.lemmas.Result.{err_from_is_err_and}
use Rattle.std.specs.Option.{option_map}
use Rattle.std.specs.Prelude.{IsSome, Option, Some, None}
use Rattle.cells.specs.declared.place.Box3.{Box3}
use Rattle.map_canvas.specs.declared.canvas.Placement.{Placement}
use Rattle.map_canvas.specs.Choices.{Fits}
use Rattle.patch_picks.specs.Lists.{fit_list, part_lists}
use Rattle.patch_picks.specs.Picks.{IsPick}
use Rattle.map_canvas.specs.Maps.{first_unfilled}
use Rattle.block_strips.specs.Blocks.{block_at}
use Rattle.quilted.specs.Runs.{IsLaidBlock, LaysNext, quilting}
use Rattle.quilt.proofs.step.next_block_by.Goals as goal

pub returns-in-Ok-clause-next : goal.returns-in-Ok-clause-next
returns-in-Ok-clause-next g c =
    let plan = c.args.plan.now in
    let m = c.args.canvas.now.map in
    let sample = c.args.sample.now in
    let block = c.in-Ok.block in
    let rating = g.P.BlockPicks.rating c.args.picks.now sample in
    let placed : c.in_ok-placement.placement ≡ block.placement = sym c.in-Ok.ensures.block.placed in
    let rect : c.in-Some.rect ≡ block.placement.rect = sym c.in_ok-placement.ensures.same ∙ ap (λ (p : Placement). p.rect) placed in
    record {
      next = sym c.in-Some.ensures.next ∙ ap Some rect;
      pick = subst (λ (r : Box3). IsPick (rating m) (Some plan.tol) (part_lists (fit_list r) sample) c.args.draws.now block.placement) rect
          (subst (λ (p : Placement). IsPick (rating m) (Some plan.tol) (part_lists (fit_list c.in-Some.rect) sample) c.args.draws.now p) placed c.in_ok-placement.ensures.pick);
      fits = subst (Fits m.size sample) placed c.in_ok-placement.ensures.fits;
      laid = subst (λ (p : Placement). IsLaidBlock plan m sample p block) placed c.in-Ok.ensures.block;
      map = c.in-Ok.ensures.map;
      draws = c.in_ok-placement.ensures.next;
    }

has_value : {A B : Type 0} (f : A → B) (o : Option A) (y : B) → option_map f o ≡ Some y → IsSome o
has_value f None y e = absurd (none-some y e)
has_value f (Some x) y e = refl

pub returns-in_err-placement-clause-next : goal.returns-in_err-placement-clause-next
returns-in_err-placement-clause-next g c =
    let plan = c.args.plan.now in
    let m = c.args.canvas.now.map in
    let sample = c.args.sample.now in
    let error = err_from_is_err_and c.from_residual.result c.from_residual.ensures.1 in
    subst (LaysNext (g.P.BlockPicks.rating c.args.picks.now sample) plan sample (quilting m c.args.draws.now) (quilting m c.pick.new.draws)) (sym error.1)
    (has_value (block_at plan m.size sample.size) (first_unfilled m) c.in-Some.rect (sym c.in-Some.ensures.next), ap (quilting m) c.in_err-placement.ensures.kept)

pub returns-in-Err-clause-next : goal.returns-in-Err-clause-next
returns-in-Err-clause-next g c =
    let m = c.args.canvas.now.map in (
      has_value (block_at c.args.plan.now m.size c.args.sample.now.size) (first_unfilled m) c.in-Some.rect (sym c.in-Some.ensures.next),
      λ k. quilting (c.in-Err.ensures.kept k).map ((c.go_to.ensures ∙ (λ t. record (c.in_ok-placement.ensures.next t) { place = c.place-number.ensures t })) k),
    )
