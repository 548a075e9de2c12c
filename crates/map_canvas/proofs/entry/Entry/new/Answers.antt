use Rattle.std.proofs.Common.{arith}
use Rattle.std.proofs.lemmas.Grind.{common_steps}
use Rattle.map_canvas.proofs.entry.Entry.new.Goals as goal

pub invariant_of-result : goal.invariant_of-result
invariant_of-result c = grind (arith, common_steps)

pub overflow_cast-code-in-Some-2 : goal.overflow_cast-code-in-Some-2
overflow_cast-code-in-Some-2 c = grind (arith, common_steps)

pub overflow_add-code-in-Some-2 : goal.overflow_add-code-in-Some-2
overflow_add-code-in-Some-2 c = grind (arith, common_steps)

pub returns : goal.returns
returns c = grind (arith, common_steps)

pub overflow_cast-code-in-Some : goal.overflow_cast-code-in-Some
overflow_cast-code-in-Some c = grind (arith, common_steps)

pub overflow_cast-code : goal.overflow_cast-code
overflow_cast-code c = grind (arith, common_steps)

pub overflow_mul-code-in-Some : goal.overflow_mul-code-in-Some
overflow_mul-code-in-Some c = grind (arith, common_steps)

pub overflow_add-code-in-Some : goal.overflow_add-code-in-Some
overflow_add-code-in-Some c = grind (arith, common_steps)

pub overflow_mul-code : goal.overflow_mul-code
overflow_mul-code c = grind (arith, common_steps)

pub overflow_add-code : goal.overflow_add-code
overflow_add-code c = grind (arith, common_steps)
