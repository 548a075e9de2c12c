use Rattle.std.proofs.Common.{arith}
use Rattle.std.proofs.lemmas.Grind.{common_steps}
use Rattle.patch_place.proofs.skips.Skips.count_from.Goals as goal

pub returns-then-covers-clause-gone : goal.returns-then-covers-clause-gone
returns-then-covers-clause-gone c = grind (arith, common_steps)

pub returns-else-covers-clause-gone : goal.returns-else-covers-clause-gone
returns-else-covers-clause-gone c = grind (arith, common_steps)
