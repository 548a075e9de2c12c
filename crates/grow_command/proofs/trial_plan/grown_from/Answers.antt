use Rattle.std.proofs.Common.{ap, subst, sym}
use Rattle.cells.specs.Places.{IsSmall}
use Rattle.grown.specs.declared.plan.GrowPlan.{GrowPlan}
use Rattle.grown.specs.Grown.{IsGrowFault, IsGrown}
use Rattle.patch_picks.specs.Fitting.{HasPatch}
use Rattle.outputs.proofs.Growing.{has_patch}
use Rattle.grow_command.specs.Trials.{NotTried, trial_plan}
use Rattle.grow_command.proofs.Trying.{not_grown, small_trial}
use Rattle.grow_command.proofs.trial_plan.grown_from.Goals as goal

pub grow_canvas-requires-clause-small : goal.grow_canvas-requires-clause-small
grow_canvas-requires-clause-small c =
    subst (λ (plan : GrowPlan). IsSmall plan.size) (sym c.plan_of.ensures) (small_trial c.args.job.now c.requires.job c.requires.within)

pub grow_canvas-requires-clause-patch : goal.grow_canvas-requires-clause-patch
grow_canvas-requires-clause-patch c =
    let job = c.args.job.now in
    subst (λ (plan : GrowPlan). HasPatch plan.mode) (sym c.plan_of.ensures) (has_patch job.place job.side job.overlap job.tol c.requires.job.side.0)

pub summary_of-summary-requires-clause-grown : goal.summary_of-summary-requires-clause-grown
summary_of-summary-requires-clause-grown c =
    subst (λ plan. IsGrown plan c.args.sample.now c.in-Ok.grown) c.plan_of.ensures (c.in-Ok.ensures {u = tt})

pub returns-in-Err-clause-failed : goal.returns-in-Err-clause-failed
returns-in-Err-clause-failed c =
    let job = c.args.job.now in
    let error = c.in-Err.error in
    subst (NotTried job) (sym c.growing_fault.ensures)
    (not_grown job c.requires.within error
    (subst (λ sample. IsGrowFault (trial_plan job) sample error) c.requires.sample (subst (λ plan. IsGrowFault plan c.args.sample.now error) c.plan_of.ensures (c.in-Err.ensures {u = tt}))))

pub returns-clause-made : goal.returns-clause-made
returns-clause-made c = record {
  within = c.requires.within;
  grown = c.in-Ok.grown;
  is_grown = subst (λ sample. IsGrown (trial_plan c.args.job.now) sample c.in-Ok.grown) c.requires.sample (subst (λ plan. IsGrown plan c.args.sample.now c.in-Ok.grown) c.plan_of.ensures (c.in-Ok.ensures {u = tt}));
  summary_is = c.summary_of-summary.ensures;
}
