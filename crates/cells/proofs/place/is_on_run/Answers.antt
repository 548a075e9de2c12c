use Rattle.std.proofs.Common.{arith}
use Rattle.std.proofs.lemmas.Grind.{common_steps}
use Rattle.cells.proofs.place.is_on_run.Goals as goal

pub returns-then-step-ge0 : goal.returns-then-step-ge0
returns-then-step-ge0 c = grind (arith, common_steps)

pub returns-else-step-ge0 : goal.returns-else-step-ge0
returns-else-step-ge0 c = grind (arith, common_steps)

pub overflow_sub-step : goal.overflow_sub-step
overflow_sub-step c = grind (arith, common_steps)
