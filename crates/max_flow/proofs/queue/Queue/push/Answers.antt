use Rattle.std.proofs.Common.{arith}
use Rattle.std.proofs.lemmas.Grind.{common_steps}
use Rattle.max_flow.proofs.queue.Queue.push.Goals as goal

pub returns : goal.returns
returns c = grind (arith, common_steps)

pub push_reserved-requires : goal.push_reserved-requires
push_reserved-requires c = grind (arith, common_steps)
