use Rattle.std.proofs.Common.{arith}
use Rattle.std.proofs.lemmas.Grind.{common_steps}
use Rattle.shelf_core.proofs.mem_shelf.MemShelfShelf.begin.Goals as goal

pub returns-clause-writes : goal.returns-clause-writes
returns-clause-writes c = grind (arith, common_steps)

pub returns-clause-ok : goal.returns-clause-ok
returns-clause-ok c = grind (arith, common_steps)

pub returns-clause-begun : goal.returns-clause-begun
returns-clause-begun c = grind (arith, common_steps)

pub returns-2-clause-writes : goal.returns-2-clause-writes
returns-2-clause-writes c = grind (arith, common_steps)

pub returns-clause-asked : goal.returns-clause-asked
returns-clause-asked c = grind (arith, common_steps)

pub returns-2-clause-err : goal.returns-2-clause-err
returns-2-clause-err c = grind (arith, common_steps)

pub returns-2-clause-asked : goal.returns-2-clause-asked
returns-2-clause-asked c = grind (arith, common_steps)

pub returns-clause-listed : goal.returns-clause-listed
returns-clause-listed c = grind (arith, common_steps)

pub returns-2-clause-failed : goal.returns-2-clause-failed
returns-2-clause-failed c = grind (arith, common_steps)
