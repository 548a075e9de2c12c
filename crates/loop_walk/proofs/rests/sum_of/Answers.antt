use Rattle.std.proofs.Common.{arith}
use Rattle.std.proofs.lemmas.Grind.{common_steps}
use Rattle.loop_walk.proofs.rests.sum_of.Goals as goal

pub returns-then-rest-lt-GREATEST_REST : goal.returns-then-rest-lt-GREATEST_REST
returns-then-rest-lt-GREATEST_REST c = grind (arith, common_steps)
