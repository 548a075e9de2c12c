use Rattle.std.proofs.Common.{arith}
use Rattle.std.proofs.lemmas.Grind.{common_steps}
use Rattle.cut_check.proofs.bounds.is_within.Goals as goal

pub returns-then-cost-z : goal.returns-then-cost-z
returns-then-cost-z c = grind (arith, common_steps)

pub returns-else-cost-z : goal.returns-else-cost-z
returns-else-cost-z c = grind (arith, common_steps)
