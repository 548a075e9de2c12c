use Rattle.std.proofs.Common.{arith}
use Rattle.std.proofs.lemmas.Grind.{common_steps}
use Rattle.cost_windows.proofs.reach.put_row.Goals as goal

pub overflow_add-sums : goal.overflow_add-sums
overflow_add-sums c = grind (arith, common_steps)

pub bounds-sums-k : goal.bounds-sums-k
bounds-sums-k c = grind (arith, common_steps)
