use Rattle.std.proofs.Common.{arith}
use Rattle.std.proofs.lemmas.Grind.{common_steps}
use Rattle.search_squares.proofs.levels.BoxLevels.gather.Goals as goal

pub add_all-requires-clause-cells : goal.add_all-requires-clause-cells
add_all-requires-clause-cells c = grind (arith, common_steps)

pub add_all-requires-clause-long : goal.add_all-requires-clause-long
add_all-requires-clause-long c = grind (arith, common_steps)

pub add_all-requires-clause-filled : goal.add_all-requires-clause-filled
add_all-requires-clause-filled c = grind (arith, common_steps)

pub returns-in_default : goal.returns-in_default
returns-in_default c = grind (arith, common_steps)

pub returns-then-not-has_cells : goal.returns-then-not-has_cells
returns-then-not-has_cells c = grind (arith, common_steps)

pub add_all-requires-clause-levels : goal.add_all-requires-clause-levels
add_all-requires-clause-levels c = grind (arith, common_steps)

pub filled_cells-requires-clause-some : goal.filled_cells-requires-clause-some
filled_cells-requires-clause-some c = grind (arith, common_steps)
