use Rattle.std.proofs.Common.{arith}
use Rattle.std.proofs.lemmas.Grind.{common_steps}
use Rattle.strip_boundary.proofs.sums.first_least_near.Goals as goal

pub returns : goal.returns
returns c = grind (arith, common_steps)
