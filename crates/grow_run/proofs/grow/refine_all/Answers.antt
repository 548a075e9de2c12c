use mathlib.Core.Bool.{false≢true}
use Rattle.std.proofs.Common.{arith, inl, inr, sym}
use Rattle.std.proofs.lemmas.Grind.{common_steps}
use Rattle.grow_run.proofs.Stepping.{refined}
use Rattle.grow_run.proofs.grow.refine_all.Goals as goal
use Rattle.grow_run.proofs.grow.refine_all.Goals.{then-refining-test+else-work-plan, else-refining-test}

pub refining-init : goal.refining-init
refining-init c = record {
  refining = record { so_far = c.requires.work; full = c.requires.full; right = c.in_ok-table.ensures };
  calm = λ e. absurd (false≢true (sym e));
}

pub refining-preserved : goal.refining-preserved
refining-preserved c =
    let step = refined c.args.plan.now c.args.sample.now c.refining.work c.refine_step.new.work c.refine_step.new.table c.in_ok-more.more (c.in_ok-more.ensures {u = tt}) in
    record { refining = step.0; calm = step.1 }

pub refining-smaller : goal.refining-smaller
refining-smaller c = grind (arith, common_steps)

pub returns : goal.returns
returns c = (
  c.refining.invariant.refining.so_far,
  record {
    full = c.refining.invariant.refining.full;
    rounds = elim c.refining-test.branch [
      | then-refining-test+else-work-plan w ↦ inl (omega (arith, w.if-work-plan.false, c.refining.invariant.refining.so_far.rounds))
      | else-refining-test w ↦ inr (c.refining.invariant.calm w.refining-test.false)
    ];
  },
)
