use Rattle.std.proofs.Common.{arith}
use Rattle.std.proofs.lemmas.Grind.{common_steps}
use Rattle.cut_check.proofs.bounds.leaves_first.Goals as goal

pub returns-then-is_up_to : goal.returns-then-is_up_to
returns-then-is_up_to c = grind (arith, common_steps)

pub returns-else-is_up_to : goal.returns-else-is_up_to
returns-else-is_up_to c = grind (arith, common_steps)
