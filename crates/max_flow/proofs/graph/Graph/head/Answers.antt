use Rattle.std.proofs.Common.{arith}
use Rattle.std.proofs.lemmas.Grind.{common_steps}
use Rattle.max_flow.proofs.graph.Graph.head.Goals as goal

pub returns-else-arc-eq0-clause-within : goal.returns-else-arc-eq0-clause-within
returns-else-arc-eq0-clause-within c = grind (arith, common_steps)

pub returns-then-arc-eq0-clause-within : goal.returns-then-arc-eq0-clause-within
returns-then-arc-eq0-clause-within c = grind (arith, common_steps)
