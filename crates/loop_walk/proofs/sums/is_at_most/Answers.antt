use Rattle.std.proofs.Common.{arith}
use Rattle.std.proofs.lemmas.Grind.{common_steps}
use Rattle.loop_walk.proofs.sums.is_at_most.Goals as goal

pub returns-in_default-entry : goal.returns-in_default-entry
returns-in_default-entry c = grind (arith, common_steps)

pub returns : goal.returns
returns c = grind (arith, common_steps)

pub returns-in_default-second : goal.returns-in_default-second
returns-in_default-second c = grind (arith, common_steps)

pub returns-in_default : goal.returns-in_default
returns-in_default c = grind (arith, common_steps)
