use Rattle.std.proofs.Common.{arith}
use Rattle.std.proofs.lemmas.Grind.{common_steps}
use Rattle.loop_walk.proofs.trace.sum_through.Goals as goal

pub bounds-left-i : goal.bounds-left-i
bounds-left-i c = grind (arith, common_steps)
