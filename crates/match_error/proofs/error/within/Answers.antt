use Rattle.std.proofs.Common.{arith}
use Rattle.std.proofs.lemmas.Grind.{common_steps}
use Rattle.match_error.proofs.error.within.Goals as goal

pub overflow_mul-most-2 : goal.overflow_mul-most-2
overflow_mul-most-2 c = grind (arith, common_steps)

pub overflow_mul-least-2 : goal.overflow_mul-least-2
overflow_mul-least-2 c = grind (arith, common_steps)

pub overflow_mul-most : goal.overflow_mul-most
overflow_mul-most c = grind (arith, common_steps)
