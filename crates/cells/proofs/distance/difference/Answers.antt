use Rattle.std.proofs.Common.{arith}
use Rattle.std.proofs.lemmas.Grind.{common_steps}
use Rattle.cells.proofs.distance.difference.Goals as goal

pub sum-requires-clause-can : goal.sum-requires-clause-can
sum-requires-clause-can c = grind (arith, common_steps)
