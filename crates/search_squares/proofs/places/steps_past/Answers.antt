use Rattle.std.proofs.lemmas.Grind.{common_steps}
use Rattle.std.proofs.Common.{arith}
use Rattle.std.proofs.lemmas.Int.{ints}
use Rattle.search_squares.proofs.places.steps_past.Goals as goal

pub returns : goal.returns
returns c = omega (arith, ints)

pub overflow_cast-result : goal.overflow_cast-result
overflow_cast-result c = omega (arith, ints)

pub overflow_sub-steps : goal.overflow_sub-steps
overflow_sub-steps c = grind (arith, common_steps)
