use Rattle.std.proofs.Common.{arith}
use Rattle.std.proofs.lemmas.Grind.{common_steps}
use Rattle.loop_walk.proofs.sums.stored_entry.Goals as goal

pub bounds-tables-t : goal.bounds-tables-t
bounds-tables-t c = grind (arith, common_steps)
