use Rattle.std.proofs.Common.{arith}
use Rattle.std.proofs.lemmas.Grind.{common_steps}
use Rattle.torus.proofs.put.coordinate_at.Goals as goal

pub around_axis-requires : goal.around_axis-requires
around_axis-requires c = grind (arith, common_steps)

pub returns : goal.returns
returns c = grind (arith, common_steps)
