use Rattle.std.proofs.Common.{arith}
use Rattle.std.proofs.lemmas.Grind.{common_steps}
use Rattle.frame_distance.proofs.steps.step_cost.Goals as goal

pub returns-else-abs_diff-gap-clause-cost : goal.returns-else-abs_diff-gap-clause-cost
returns-else-abs_diff-gap-clause-cost c = grind (arith, common_steps)
