use Rattle.std.proofs.Common.{arith}
use Rattle.std.proofs.lemmas.Grind.{common_steps}
use Rattle.search_squares.proofs.levels.BoxLevels.likely.Goals as goal

pub nearest_in-requires-clause-blocks : goal.nearest_in-requires-clause-blocks
nearest_in-requires-clause-blocks c = grind (arith, common_steps)

pub nearest_in-requires-clause-sums : goal.nearest_in-requires-clause-sums
nearest_in-requires-clause-sums c = grind (arith, common_steps)

pub nearest_in-requires-clause-inside : goal.nearest_in-requires-clause-inside
nearest_in-requires-clause-inside c = c.requires.inside

pub nearest_in-requires-clause-over : goal.nearest_in-requires-clause-over
nearest_in-requires-clause-over c = c.requires.over

pub nonzero_div-row : goal.nonzero_div-row
nonzero_div-row c = grind (arith, common_steps)

pub nonzero_rem-row : goal.nonzero_rem-row
nonzero_rem-row c = grind (arith, common_steps)
