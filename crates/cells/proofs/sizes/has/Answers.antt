use Rattle.std.proofs.Common.{arith}
use Rattle.std.proofs.lemmas.Grind.{common_steps}
use Rattle.cells.proofs.sizes.has.Goals as goal

pub returns-then-is_on_axis-2 : goal.returns-then-is_on_axis-2
returns-then-is_on_axis-2 c = grind (arith, common_steps)

pub returns-else-is_on_axis-2 : goal.returns-else-is_on_axis-2
returns-else-is_on_axis-2 c = grind (arith, common_steps)
