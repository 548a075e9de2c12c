use Rattle.std.proofs.lemmas.Grind.{common_steps}
use Rattle.std.proofs.Common.{arith}
use Rattle.max_flow.proofs.Limits.{value_limit}
use Rattle.max_flow.proofs.solver.run.Goals as goal

pub phases-smaller : goal.phases-smaller
phases-smaller c = omega (arith, value_limit _ _ _ _ _ c.blocking_flow-value.ensures.carries, c.blocking_flow-value.ensures.rises)

pub returns-then-not-is_thin-clause-closed : goal.returns-then-not-is_thin-clause-closed
returns-then-not-is_thin-clause-closed c = grind (arith, common_steps)

pub returns-clause-closed : goal.returns-clause-closed
returns-clause-closed c = grind (arith, common_steps)

pub blocking_flow-value-requires-clause-sink : goal.blocking_flow-value-requires-clause-sink
blocking_flow-value-requires-clause-sink c = grind (arith, common_steps)

pub returns-then-not-is_thin-clause-sink : goal.returns-then-not-is_thin-clause-sink
returns-then-not-is_thin-clause-sink c = grind (arith, common_steps)

pub blocking_flow-value-requires-clause-current : goal.blocking_flow-value-requires-clause-current
blocking_flow-value-requires-clause-current c = grind (arith, common_steps)

pub phases-preserved : goal.phases-preserved
phases-preserved c = grind (arith, common_steps)

pub blocking_flow-value-requires-clause-levels : goal.blocking_flow-value-requires-clause-levels
blocking_flow-value-requires-clause-levels c = c.in_ok-find_levels.ensures.levels

pub find_levels-requires-clause-residuals : goal.find_levels-requires-clause-residuals
find_levels-requires-clause-residuals c = omega arith

pub returns-clause-levels : goal.returns-clause-levels
returns-clause-levels c = c.in_ok-find_levels.ensures.levels

pub returns-clause-sink : goal.returns-clause-sink
returns-clause-sink c = grind (arith, common_steps)

pub blocking_flow-value-requires-clause-path : goal.blocking_flow-value-requires-clause-path
blocking_flow-value-requires-clause-path c = grind (arith, common_steps)

pub blocking_flow-value-requires-clause-carries : goal.blocking_flow-value-requires-clause-carries
blocking_flow-value-requires-clause-carries c = grind (arith, common_steps)

pub returns-then-not-is_thin-clause-levels : goal.returns-then-not-is_thin-clause-levels
returns-then-not-is_thin-clause-levels c = grind (arith, common_steps)

pub returns-then-not-is_thin-clause-carries : goal.returns-then-not-is_thin-clause-carries
returns-then-not-is_thin-clause-carries c = grind (arith, common_steps)

pub overflow_mul-is_thin : goal.overflow_mul-is_thin
overflow_mul-is_thin c = grind (arith, common_steps)

pub bounds-levels-graph : goal.bounds-levels-graph
bounds-levels-graph c = grind (arith, common_steps)

pub returns-clause-carries : goal.returns-clause-carries
returns-clause-carries c = grind (arith, common_steps)
