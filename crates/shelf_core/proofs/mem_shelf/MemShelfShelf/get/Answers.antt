use Rattle.std.proofs.Common.{arith}
use Rattle.std.proofs.lemmas.Grind.{common_steps}
use Rattle.shelf_core.proofs.mem_shelf.MemShelfShelf.get.Goals as goal

pub returns-clause-fails : goal.returns-clause-fails
returns-clause-fails c = grind (arith, common_steps)

pub returns-clause-reads : goal.returns-clause-reads
returns-clause-reads c = grind (arith, common_steps)

pub returns-clause-ok : goal.returns-clause-ok
returns-clause-ok c = grind (arith, common_steps)

pub returns-clause-asked : goal.returns-clause-asked
returns-clause-asked c = grind (arith, common_steps)

pub returns-2-clause-err : goal.returns-2-clause-err
returns-2-clause-err c = grind (arith, common_steps)

pub returns-2-clause-reads : goal.returns-2-clause-reads
returns-2-clause-reads c = grind (arith, common_steps)

pub returns-2-clause-fails : goal.returns-2-clause-fails
returns-2-clause-fails c = grind (arith, common_steps)

pub returns-2-clause-asked : goal.returns-2-clause-asked
returns-2-clause-asked c = grind (arith, common_steps)

pub returns-2-clause-failed : goal.returns-2-clause-failed
returns-2-clause-failed c = grind (arith, common_steps)
