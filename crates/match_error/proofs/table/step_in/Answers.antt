use Rattle.std.proofs.Common.{arith}
use Rattle.std.proofs.lemmas.Grind.{common_steps}
use Rattle.match_error.proofs.table.step_in.Goals as goal

pub returns-clause-step : goal.returns-clause-step
returns-clause-step c = grind (arith, common_steps)

pub returns-clause-room : goal.returns-clause-room
returns-clause-room c = grind (arith, common_steps)

pub overflow_cast-result : goal.overflow_cast-result
overflow_cast-result c = grind (arith, common_steps)

pub overflow_add-step : goal.overflow_add-step
overflow_add-step c = grind (arith, common_steps)

pub overflow_sub-step : goal.overflow_sub-step
overflow_sub-step c = grind (arith, common_steps)
