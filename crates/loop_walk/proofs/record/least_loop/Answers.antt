use Rattle.std.proofs.Common.{arith}
use Rattle.std.proofs.lemmas.Grind.{common_steps}
use Rattle.loop_walk.proofs.record.least_loop.Goals as goal

pub least_walk-requires-clause-steps : goal.least_walk-requires-clause-steps
least_walk-requires-clause-steps c = grind (arith, common_steps)

pub least_walk-requires-clause-tables : goal.least_walk-requires-clause-tables
least_walk-requires-clause-tables c = grind (arith, common_steps)

pub returns-clause-least : goal.returns-clause-least
returns-clause-least c = grind (arith, common_steps)

pub returns-clause-tight : goal.returns-clause-tight
returns-clause-tight c = grind (arith, common_steps)

pub returns-clause-first : goal.returns-clause-first
returns-clause-first c = grind (arith, common_steps)

pub made_tables-requires-clause-steps : goal.made_tables-requires-clause-steps
made_tables-requires-clause-steps c = grind (arith, common_steps)

pub returns-clause-cost : goal.returns-clause-cost
returns-clause-cost c = grind (arith, common_steps)
