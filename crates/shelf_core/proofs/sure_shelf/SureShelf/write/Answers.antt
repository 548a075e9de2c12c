use Rattle.std.proofs.Common.{arith}
use Rattle.std.proofs.lemmas.Grind.{common_steps}
use Rattle.shelf_core.proofs.sure_shelf.SureShelf.write.Goals as goal

pub returns-then-not-store-clause-after : goal.returns-then-not-store-clause-after
returns-then-not-store-clause-after c = grind (arith, common_steps)

pub returns-else-self-clause-after : goal.returns-else-self-clause-after
returns-else-self-clause-after c = grind (arith, common_steps)

pub returns-else-self-clause-told : goal.returns-else-self-clause-told
returns-else-self-clause-told c = grind (arith, common_steps)
