use Rattle.std.proofs.Common.{arith}
use Rattle.std.proofs.lemmas.Grind.{common_steps}
use Rattle.patch_place.proofs.reach.around_of.Goals as goal

pub returns-in-Laid : goal.returns-in-Laid
returns-in-Laid c = grind (arith, common_steps)
