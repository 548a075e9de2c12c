use Rattle.std.proofs.Common.{arith}
use Rattle.std.proofs.lemmas.Grind.{common_steps}
use Rattle.patch_place.proofs.shortlist.limit_of.Goals as goal

pub returns : goal.returns
returns c = grind (arith, common_steps)

pub overflow_mul-most-2 : goal.overflow_mul-most-2
overflow_mul-most-2 c = grind (arith, common_steps)
