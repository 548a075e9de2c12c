use Rattle.std.proofs.lemmas.Grind.{common_steps}
use Rattle.std.proofs.Common.{Bool, ◌<◌, ◌+◌, ◌-◌, ◌∙◌, ap, refl, subst, sym, arith}
use Rattle.std.specs.Prelude.{if◌then◌else◌}
use mathlib.Core.Bool.{false≢true}
use Rattle.cells.specs.Places.{cell_count}
use Rattle.map_canvas.proofs.EmptyAndFull.{whole_is_full}
use Rattle.map_canvas.specs.Canvases.{empty_canvas}
use Rattle.torus.proofs.OneRuns.{small_output}
use Rattle.tile_run.specs.Work.{reached}
use Rattle.tile_run.proofs.Stepping.{none_laid, smaller}
use Rattle.tile_run.proofs.tiling.tile_canvas.Goals as goal

pub returns : goal.returns
returns c =
    let its = c.laying.invariant.work in
    record {
      steps = its.steps;
      draws = c.laying.work.draws;
      run = its.run;
      full = whole_is_full c.laying.work.canvas.map its.canvas.map (c.laying.invariant.full c.laying-test.false);
      count = its.count;
      size = its.size_is;
      canvas = its.canvas;
      over = its.over;
    }

pub laying-smaller : goal.laying-smaller
laying-smaller c =
    let size = c.args.plan.now.size in
    let after = if c.in_ok-more.more then cell_count size - reached c.step.new.work.canvas.map + 1 else 0 in
    subst (λ (b : Bool). after < (if b then cell_count size - reached c.laying.work.canvas.map + 1 else 0)) (sym c.laying-test.true)
    (smaller c.args.plan.now c.args.sample.now c.laying.work c.step.new.work c.in_ok-more.more c.in_ok-more.ensures)

pub laying-preserved : goal.laying-preserved
laying-preserved c = grind (arith, common_steps)

pub step-requires-clause-plan : goal.step-requires-clause-plan
step-requires-clause-plan c = c.requires.plan

pub empty-requires-clause-small : goal.empty-requires-clause-small
empty-requires-clause-small c = small_output c.args.plan.now c.requires.plan

pub laying-init : goal.laying-init
laying-init c = record {
  work = none_laid c.args.plan.now c.args.sample.now _ c.in_ok-canvas.ensures.canvas (c.in_ok-canvas.ensures.stands c.args.sample.now (sym c.samples.ensures.samples))
      (c.in_ok-canvas.ensures.empty ∙ ap (empty_canvas c.args.plan.now.size) c.samples.ensures.samples) c.from_seed.ensures refl;
  full = λ is. absurd (false≢true (sym is));
}
