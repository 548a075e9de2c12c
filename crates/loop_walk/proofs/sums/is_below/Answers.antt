use Rattle.std.proofs.Common.{arith}
use Rattle.std.proofs.lemmas.Grind.{common_steps}
use Rattle.loop_walk.proofs.sums.is_below.Goals as goal

pub returns-then-number-sum : goal.returns-then-number-sum
returns-then-number-sum c = grind (arith, common_steps)

pub bounds-tables-t : goal.bounds-tables-t
bounds-tables-t c = grind (arith, common_steps)

pub offset_bounds-tables-t : goal.offset_bounds-tables-t
offset_bounds-tables-t c = grind (arith, common_steps)

pub overflow_add-number-2 : goal.overflow_add-number-2
overflow_add-number-2 c = grind (arith, common_steps)

pub is_below_sums-requires-clause-number : goal.is_below_sums-requires-clause-number
is_below_sums-requires-clause-number c = grind (arith, common_steps)
