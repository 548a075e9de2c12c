use Rattle.std.proofs.lemmas.Grind.{common_steps}
use Rattle.std.proofs.Common.{arith}
use Rattle.max_flow.proofs.graph.Graph.residual.Goals as goal

pub overflow_sub-result : goal.overflow_sub-result
overflow_sub-result c = omega arith

pub overflow_add-result : goal.overflow_add-result
overflow_add-result c = grind (arith, common_steps)
