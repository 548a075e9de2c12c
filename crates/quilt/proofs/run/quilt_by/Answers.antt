use Rattle.std.proofs.Common.{◌≡◌, ◌≤◌, ◌∙◌, ap, refl, sym, subst}
use Rattle.std.proofs.lemmas.Bool.{false≢true}
use Rattle.std.specs.Prelude.{All}
use Rattle.map_canvas.specs.Canvases.{empty_canvas}
use Rattle.map_canvas.specs.Maps.{empty_map}
use Rattle.quilted.specs.Runs.{QuiltsTo, first_quilting, quilting}
use Rattle.quilted.proofs.Runs.{quilts_replay}
use Rattle.limits.specs.declared.bounds.TheConstants.{MOST_BOX_CELLS}
use Rattle.quilted.specs.PlanLimit.{PlanStaysWithin}
use Rattle.quilted.specs.Costs.{IsFileBlock, all_boundaries, quilt_cost}
use Rattle.block_check.specs.Blocks.{block_cells}
use Rattle.quilt.specs.QuiltWork.{IsQuiltWork}
use Rattle.quilt.proofs.Stepping.{none_made}
use Rattle.quilt.proofs.run.quilt_by.Goals as goal

pub laying-init : goal.laying-init
laying-init g c = record {
  work = none_made (g.P.BlockPicks.rating c.args.picks.now c.args.sample.now) c.args.asked.now c.args.sample.now _ c.requires.can c.in_ok-canvas.ensures.canvas
      (c.in_ok-canvas.ensures.stands c.args.sample.now (sym c.samples-samples.ensures.samples))
      (c.in_ok-canvas.ensures.empty ∙ ap (empty_canvas c.args.asked.now.size) c.samples-samples.ensures.samples)
      (c.empty_map_is_laid.ensures c.args.asked.now.plan c.args.sample.now c.args.asked.now.size)
      c.from_seed.ensures c.new.ensures.items refl refl;
  full = λ e. absurd (false≢true (sym e));
}

pub returns : goal.returns
returns g c =
    let rating = g.P.BlockPicks.rating c.args.picks.now c.args.sample.now in
    let asked = c.args.asked.now in
    let sample = c.args.sample.now in
    let end = c.laying.work in
    let work : IsQuiltWork rating asked sample end = c.laying.invariant.work in
    let items = sym c.from_vec.ensures in
    let blocks = c.from_vec.result in
    let after = quilting end.canvas.map end.draws in
    let steps = subst (λ blocks. QuiltsTo rating asked.plan sample (first_quilting asked.size asked.seed) blocks after) items work.steps in
    record {
      draws = end.draws;
      run = record { run = steps; full = c.laying.invariant.full c.laying-test.false };
      size = work.size;
      replays = quilts_replay asked.plan sample c.samples-samples.ensures.volume c.requires.can.block asked.size c.requires.can.small c.requires.can.frame rating asked.seed blocks after steps;
      canvas = work.canvas;
      over = work.pictures.over;
      boundaries = subst (λ blocks. end.boundaries ≡ all_boundaries blocks) items work.boundaries;
      cost = subst (λ blocks. end.cost ≡ quilt_cost sample (empty_map asked.size) blocks) items work.cost;
      writable = record {
        each = subst (All (IsFileBlock asked.size sample)) items work.each;
        cells = subst (λ blocks. block_cells blocks ≤ MOST_BOX_CELLS) items work.within;
      };
    }

pub step-requires-clause-within : goal.step-requires-clause-within
step-requires-clause-within g c = subst (PlanStaysWithin c.args.asked.now.plan c.args.asked.now.size) c.size.ensures.size c.in_default.ensures
