use Rattle.std.proofs.Common.{arith}
use Rattle.std.proofs.lemmas.Grind.{common_steps}
use Rattle.offset_errors.proofs.errors.offset_on.Goals as goal

pub returns-then-b-d : goal.returns-then-b-d
returns-then-b-d c = grind (arith, common_steps)

pub overflow_add-b : goal.overflow_add-b
overflow_add-b c = omega arith

pub overflow_add-w : goal.overflow_add-w
overflow_add-w c = omega arith

pub overflow_add-t : goal.overflow_add-t
overflow_add-t c = omega arith

pub overflow_add-a : goal.overflow_add-a
overflow_add-a c = omega arith
