use Rattle.std.proofs.Common.{arith}
use Rattle.std.proofs.lemmas.Grind.{common_steps}
use Rattle.shelf_core.proofs.sure_sink.SureSinkSink.add.Goals as goal

pub returns-else-piece-self-clause-after : goal.returns-else-piece-self-clause-after
returns-else-piece-self-clause-after c = grind (arith, common_steps)

pub returns-then-piece-self-clause-added : goal.returns-then-piece-self-clause-added
returns-then-piece-self-clause-added c = grind (arith, common_steps)

pub invariant_of-self : goal.invariant_of-self
invariant_of-self c = grind (arith, common_steps)
