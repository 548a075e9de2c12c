use Rattle.std.proofs.Common.{arith}
use Rattle.std.proofs.lemmas.Grind.{common_steps}
use Rattle.strip_boundary.proofs.strip.Strip.make.Goals as goal

pub from_vec-requires : goal.from_vec-requires
from_vec-requires c = grind (arith, common_steps)
