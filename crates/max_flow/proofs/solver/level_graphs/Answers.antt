use Rattle.std.proofs.Common.{arith}
use Rattle.std.proofs.lemmas.Grind.{common_steps}
use Rattle.max_flow.proofs.solver.level_graphs.Goals as goal

pub hand_out-requires-clause-closed : goal.hand_out-requires-clause-closed
hand_out-requires-clause-closed c = grind (arith, common_steps)

pub hand_out-requires-clause-levels : goal.hand_out-requires-clause-levels
hand_out-requires-clause-levels c = grind (arith, common_steps)

pub returns-clause-last : goal.returns-clause-last
returns-clause-last c = grind (arith, common_steps)

pub hand_out-requires-clause-carries : goal.hand_out-requires-clause-carries
hand_out-requires-clause-carries c = c.in_ok-value.ensures.carries

pub run_in-requires-clause-limit : goal.run_in-requires-clause-limit
run_in-requires-clause-limit c = c.requires.limit

pub returns-clause-solved : goal.returns-clause-solved
returns-clause-solved c = grind (arith, common_steps)

pub returns-in_err-value-clause-last : goal.returns-in_err-value-clause-last
returns-in_err-value-clause-last c = grind (arith, common_steps)
