use Rattle.std.proofs.Common.{arith}
use Rattle.std.proofs.lemmas.Grind.{common_steps}
use Rattle.loop_walk.proofs.rests.raise.Goals as goal

pub loop-v-preserved : goal.loop-v-preserved
loop-v-preserved c = grind (arith, common_steps)

pub overflow_add-raised : goal.overflow_add-raised
overflow_add-raised c = grind (arith, common_steps)
