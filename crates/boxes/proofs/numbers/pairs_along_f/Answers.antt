use Rattle.std.proofs.Common.{arith}
use Rattle.std.proofs.lemmas.Grind.{common_steps}
use Rattle.boxes.proofs.numbers.pairs_along_f.Goals as goal

pub overflow_mul-result-then-at-size : goal.overflow_mul-result-then-at-size
overflow_mul-result-then-at-size c = grind (arith, common_steps)

pub returns-then-at-size-clause-few : goal.returns-then-at-size-clause-few
returns-then-at-size-clause-few c = grind (arith, common_steps)

pub returns-else-at-size-clause-few : goal.returns-else-at-size-clause-few
returns-else-at-size-clause-few c = grind (arith, common_steps)

pub overflow_add-result-then-at-size : goal.overflow_add-result-then-at-size
overflow_add-result-then-at-size c = grind (arith, common_steps)

pub overflow_mul-result-else-at-size-2 : goal.overflow_mul-result-else-at-size-2
overflow_mul-result-else-at-size-2 c = grind (arith, common_steps)

pub returns-then-at-size-clause-is : goal.returns-then-at-size-clause-is
returns-then-at-size-clause-is c = grind (arith, common_steps)

pub returns-else-at-size-clause-is : goal.returns-else-at-size-clause-is
returns-else-at-size-clause-is c = grind (arith, common_steps)

pub overflow_add-result : goal.overflow_add-result
overflow_add-result c = grind (arith, common_steps)

pub overflow_mul-result : goal.overflow_mul-result
overflow_mul-result c = grind (arith, common_steps)
