use Rattle.std.proofs.Common.{arith}
use Rattle.std.proofs.lemmas.Grind.{common_steps}
use Rattle.strip_boundary.proofs.strip.Strip.error.Goals as goal

pub overflow_add-row : goal.overflow_add-row
overflow_add-row c = grind (arith, common_steps)

pub overflow_mul-row : goal.overflow_mul-row
overflow_mul-row c = grind (arith, common_steps)

pub returns-clause-strip : goal.returns-clause-strip
returns-clause-strip c = grind (arith, common_steps)
