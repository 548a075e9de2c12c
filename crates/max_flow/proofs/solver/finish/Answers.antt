use Rattle.std.proofs.Common.{arith}
use Rattle.std.proofs.lemmas.Grind.{common_steps}
use Rattle.max_flow.proofs.solver.finish.Goals as goal

pub returns : goal.returns
returns c = grind (arith, common_steps)

pub unwrap-requires : goal.unwrap-requires
unwrap-requires c = c.in_ok-level_graphs.ensures.last

pub level_graphs-requires-clause-limit : goal.level_graphs-requires-clause-limit
level_graphs-requires-clause-limit c = c.requires.limit
