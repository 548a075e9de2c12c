use Rattle.std.proofs.Common.{arith}
use Rattle.std.proofs.lemmas.Grind.{common_steps}
use Rattle.max_flow.proofs.beginning.propose_short.Goals as goal

pub returns : goal.returns
returns c = grind (arith, common_steps)

pub turn_back-requires : goal.turn_back-requires
turn_back-requires c = grind (arith, common_steps)
