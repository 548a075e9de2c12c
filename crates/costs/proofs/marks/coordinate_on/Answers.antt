use Rattle.std.proofs.Common.{arith}
use Rattle.std.proofs.lemmas.Grind.{common_steps}
use Rattle.costs.proofs.marks.coordinate_on.Goals as goal

pub returns-else-z-ge0 : goal.returns-else-z-ge0
returns-else-z-ge0 c = grind (arith, common_steps)

pub returns-then-z-from : goal.returns-then-z-from
returns-then-z-from c = grind (arith, common_steps)

pub overflow_cast-result : goal.overflow_cast-result
overflow_cast-result c = grind (arith, common_steps)
