use Rattle.std.proofs.Common.{arith}
use Rattle.std.proofs.lemmas.Grind.{common_steps}
use Rattle.cells.proofs.place.axis_holds.Goals as goal

pub returns-then-corner-ge0 : goal.returns-then-corner-ge0
returns-then-corner-ge0 c = grind (arith, common_steps)

pub returns-else-corner-ge0 : goal.returns-else-corner-ge0
returns-else-corner-ge0 c = grind (arith, common_steps)

pub overflow_add-result : goal.overflow_add-result
overflow_add-result c = grind (arith, common_steps)
