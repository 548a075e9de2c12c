use Rattle.std.proofs.Common.{arith}
use Rattle.std.proofs.lemmas.Grind.{common_steps}
use Rattle.patch_place.proofs.offsets.PartErrors.come_to.Goals as goal

pub returns-in_ok-self-clause-part : goal.returns-in_ok-self-clause-part
returns-in_ok-self-clause-part c = grind (arith, common_steps)

pub errors_of-requires-clause-below : goal.errors_of-requires-clause-below
errors_of-requires-clause-below c = grind (arith, common_steps)

pub returns-else-self-clause-part : goal.returns-else-self-clause-part
returns-else-self-clause-part c = grind (arith, common_steps)

pub returns-else-self-clause-sums : goal.returns-else-self-clause-sums
returns-else-self-clause-sums c = grind (arith, common_steps)
