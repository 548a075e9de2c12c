use Rattle.std.proofs.Common.{arith}
use Rattle.std.proofs.lemmas.Grind.{common_steps}
use Rattle.max_flow.proofs.solver.solution.Goals as goal

pub solve_in-requires-clause-sized : goal.solve_in-requires-clause-sized
solve_in-requires-clause-sized c = grind (arith, common_steps)
