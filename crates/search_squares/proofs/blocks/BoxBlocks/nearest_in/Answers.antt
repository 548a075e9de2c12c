use Rattle.std.proofs.Common.{arith}
use Rattle.std.proofs.lemmas.Grind.{common_steps}
use Rattle.search_squares.proofs.blocks.BoxBlocks.nearest_in.Goals as goal

pub nearest_of-requires-clause-blocks : goal.nearest_of-requires-clause-blocks
nearest_of-requires-clause-blocks c = grind (arith, common_steps)

pub nearest_of-requires-clause-few : goal.nearest_of-requires-clause-few
nearest_of-requires-clause-few c = omega arith

pub nearest_of-requires-clause-inside : goal.nearest_of-requires-clause-inside
nearest_of-requires-clause-inside c = c.requires.inside

pub overflow_sub-n : goal.overflow_sub-n
overflow_sub-n c = omega arith

pub nearest_of-requires-clause-over : goal.nearest_of-requires-clause-over
nearest_of-requires-clause-over c = grind (arith, common_steps)

pub overflow_cast-factor : goal.overflow_cast-factor
overflow_cast-factor c = grind (arith, common_steps)

pub nonzero_div-max : goal.nonzero_div-max
nonzero_div-max c = grind (arith, common_steps)
