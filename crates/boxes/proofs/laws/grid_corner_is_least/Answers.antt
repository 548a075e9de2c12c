use Rattle.std.proofs.Common.{arith}
use Rattle.std.proofs.lemmas.Grind.{common_steps}
use Rattle.boxes.proofs.laws.grid_corner_is_least.Goals as goal

pub returns : goal.returns
returns c = grind (arith, common_steps)
