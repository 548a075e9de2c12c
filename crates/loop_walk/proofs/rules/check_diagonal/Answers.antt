use Rattle.std.proofs.Common.{arith}
use Rattle.std.proofs.lemmas.Grind.{common_steps}
use Rattle.loop_walk.proofs.rules.check_diagonal.Goals as goal

pub returns-then-cost-least-clause-fault : goal.returns-then-cost-least-clause-fault
returns-then-cost-least-clause-fault c = grind (arith, common_steps)

pub loop-i-init : goal.loop-i-init
loop-i-init c = grind (arith, common_steps)
