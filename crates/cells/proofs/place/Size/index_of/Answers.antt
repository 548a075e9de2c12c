use Rattle.std.proofs.Common.{arith}
use Rattle.std.proofs.lemmas.Grind.{common_steps}
use Rattle.cells.proofs.place.Size.index_of.Goals as goal

pub overflow_add-result-2 : goal.overflow_add-result-2
overflow_add-result-2 c = grind (arith, common_steps)

pub overflow_mul-result-2 : goal.overflow_mul-result-2
overflow_mul-result-2 c = grind (arith, common_steps)

pub returns-clause-below : goal.returns-clause-below
returns-clause-below c = grind (arith, common_steps)

pub overflow_add-result : goal.overflow_add-result
overflow_add-result c = grind (arith, common_steps)

pub overflow_mul-result : goal.overflow_mul-result
overflow_mul-result c = grind (arith, common_steps)

pub returns-then-x-self-clause-index : goal.returns-then-x-self-clause-index
returns-then-x-self-clause-index c = grind (arith, common_steps)

pub returns-clause-index : goal.returns-clause-index
returns-clause-index c = grind (arith, common_steps)

pub overflow_cast-result-4 : goal.overflow_cast-result-4
overflow_cast-result-4 c = grind (arith, common_steps)

pub overflow_cast-result-2 : goal.overflow_cast-result-2
overflow_cast-result-2 c = grind (arith, common_steps)

pub overflow_cast-result-5 : goal.overflow_cast-result-5
overflow_cast-result-5 c = grind (arith, common_steps)

pub overflow_cast-result-3 : goal.overflow_cast-result-3
overflow_cast-result-3 c = grind (arith, common_steps)
