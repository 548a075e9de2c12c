use Rattle.std.proofs.Common.{◌≡◌, ◌+◌, ◌∷◌, ◌++◌, [], ◌∙◌, ap, arith}
use Rattle.cells.specs.Places.{IsSmall}
use Rattle.map_canvas.proofs.Filling.{fits_small}
use Rattle.patch_picks.specs.Steps.{IsNextAt, draws_after}
use Rattle.grow_run.specs.Work.{growth_of}
use Rattle.grown.proofs.Stepping.{draws_laid, next_laid, rounds_laid, some_cells}
use Rattle.grow_run.proofs.Stepping.{one_more, passes}
use Rattle.grow_run.proofs.steps.step.Goals as goal
use Rattle.grow_run.proofs.steps.step.Goals.{In-Some}

next : (c : In-Some) → IsNextAt c.args.plan.now.mode c.args.work.now.canvas.map c.args.sample.now c.args.work.now.draws c.in-Some.placement × (c.next_placement_with.new.draws ≡ draws_after c.args.plan.now.mode c.args.work.now.draws)
next c = rw c.in-Some.is at c.in_ok-placement.ensures

small : (c : In-Some) → IsSmall c.in-Some.placement.rect.size
small c = fits_small c.args.work.now.canvas.map.size c.args.sample.now c.in-Some.placement (next c).0.fits.fits c.requires.work.canvas.map.small

pub cells-requires : goal.cells-requires
cells-requires c = small (goal.at.cells-requires c).In-Some

pub overflow_add-cells : goal.overflow_add-cells
overflow_add-cells c = omega (arith, (small (goal.at.overflow_add-cells c).In-Some).cells, c.cells.ensures, c.requires.work.within)

pub returns-then-cells-gt-MOST_BOX_CELLS : goal.returns-then-cells-gt-MOST_BOX_CELLS
returns-then-cells-gt-MOST_BOX_CELLS c =
    passes c.args.plan.now c.args.sample.now c.args.work.now c.in-Some.placement _ c.requires.work
    (next_laid c.args.plan.now c.args.sample.now (growth_of c.args.work.now) c.in-Some.placement (next (goal.at.returns-then-cells-gt-MOST_BOX_CELLS c).In-Some).0)
    (ap (λ n. c.args.work.now.cells + n) c.cells.ensures) c.if-cells-gt-MOST_BOX_CELLS.true

pub place-requires-clause-fits : goal.place-requires-clause-fits
place-requires-clause-fits c = (next (goal.at.place-requires-clause-fits c).In-Some).0.fits.fits

pub returns : goal.returns
returns c =
    let this = (goal.at.returns c).In-Some in
    let was = growth_of c.args.work.now in
    let at = (next this).0 in (
      one_more c.args.plan.now c.args.sample.now c.args.work.now _ c.in-Some.placement c.in_ok-cut.cut c.requires.work
          (next_laid c.args.plan.now c.args.sample.now was c.in-Some.placement at)
          at.fits.fits.some
          ((next this).1 ∙ draws_laid c.args.plan.now c.args.sample.now was c.in-Some.placement at)
          (rounds_laid c.args.plan.now c.args.sample.now was c.in-Some.placement at)
          c.in_ok-cut.ensures.placed c.place.ensures.canvas (c.push_reserved.ensures.items ∙ ap (λ cuts. cuts ++ c.in_ok-cut.cut ∷ []) c.reserve.ensures.items) (ap (λ n. c.args.work.now.cells + n) c.cells.ensures) c.if-cells-gt-MOST_BOX_CELLS.false c.requires.work.rounds,
      omega (arith, some_cells c.in-Some.placement.rect.size at.fits.fits.some, c.cells.ensures),
    )
