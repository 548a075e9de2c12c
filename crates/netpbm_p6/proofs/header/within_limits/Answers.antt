use Rattle.std.proofs.Common.{arith}
use Rattle.std.proofs.lemmas.Grind.{common_steps}
use Rattle.netpbm_p6.proofs.header.within_limits.Goals as goal

pub returns-then-header-from-2 : goal.returns-then-header-from-2
returns-then-header-from-2 c = grind (arith, common_steps)

pub overflow_mul-number : goal.overflow_mul-number
overflow_mul-number c = grind (arith, common_steps)

pub returns-then-header-from : goal.returns-then-header-from
returns-then-header-from c = grind (arith, common_steps)
