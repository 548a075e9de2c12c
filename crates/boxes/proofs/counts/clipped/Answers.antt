use Rattle.std.proofs.Common.{arith}
use Rattle.std.proofs.lemmas.Grind.{common_steps}
use Rattle.boxes.proofs.counts.clipped.Goals as goal

pub returns-else-z-from-clause-below : goal.returns-else-z-from-clause-below
returns-else-z-from-clause-below c = grind (arith, common_steps)

pub returns-else-z-from-clause-from : goal.returns-else-z-from-clause-from
returns-else-z-from-clause-from c = grind (arith, common_steps)

pub returns-then-z-from-clause-below : goal.returns-then-z-from-clause-below
returns-then-z-from-clause-below c = grind (arith, common_steps)

pub returns-else-z-from-clause-most : goal.returns-else-z-from-clause-most
returns-else-z-from-clause-most c = grind (arith, common_steps)

pub returns-then-z-le0-clause-from : goal.returns-then-z-le0-clause-from
returns-then-z-le0-clause-from c = grind (arith, common_steps)
