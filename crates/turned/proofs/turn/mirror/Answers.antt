use Rattle.std.proofs.Common.{arith}
use Rattle.std.proofs.lemmas.Grind.{common_steps}
use Rattle.turned.proofs.turn.mirror.Goals as goal

pub from_end-requires-clause-to : goal.from_end-requires-clause-to
from_end-requires-clause-to c = grind (arith, common_steps)

pub from_end-requires-clause-from : goal.from_end-requires-clause-from
from_end-requires-clause-from c = grind (arith, common_steps)
