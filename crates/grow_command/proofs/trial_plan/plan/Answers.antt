use Rattle.std.proofs.Common.{◌<◌, ap, inl, inr, subst}
use Rattle.limits.specs.declared.bounds.TheConstants.{MOST_OUTPUT_CELLS}
use Rattle.shelf_traits.specs.declared.fault.What.TheVariants.{Output}
use Rattle.synth_report.specs.declared.fault.Fault.TheVariants.{Limit}
use Rattle.grow_command.proofs.trial_plan.plan.Goals as goal

pub returns-then-cells-gt-MOST_OUTPUT_CELLS-clause-failed : goal.returns-then-cells-gt-MOST_OUTPUT_CELLS-clause-failed
returns-then-cells-gt-MOST_OUTPUT_CELLS-clause-failed c =
    inr (inl (subst (λ n. MOST_OUTPUT_CELLS < n) c.cells-cells.ensures c.if-cells-gt-MOST_OUTPUT_CELLS.true, ap (λ n. Limit Output n MOST_OUTPUT_CELLS) c.cells-cells.ensures))
