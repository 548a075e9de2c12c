use Rattle.std.proofs.Common.{arith}
use Rattle.std.proofs.lemmas.Grind.{common_steps}
use Rattle.shelf_core.proofs.mem_shelf.MemShelfShelf.add.Goals as goal

pub returns-in_default-extend-clause-err : goal.returns-in_default-extend-clause-err
returns-in_default-extend-clause-err c = grind (arith, common_steps)

pub returns-in-Some-clause-err : goal.returns-in-Some-clause-err
returns-in-Some-clause-err c = grind (arith, common_steps)

pub returns-clause-ok : goal.returns-clause-ok
returns-clause-ok c = grind (arith, common_steps)

pub returns-clause-writes : goal.returns-clause-writes
returns-clause-writes c = grind (arith, common_steps)

pub returns-in_default-extend-clause-writes : goal.returns-in_default-extend-clause-writes
returns-in_default-extend-clause-writes c = grind (arith, common_steps)

pub returns-in-Some-clause-writes : goal.returns-in-Some-clause-writes
returns-in-Some-clause-writes c = grind (arith, common_steps)

pub returns-clause-added : goal.returns-clause-added
returns-clause-added c = grind (arith, common_steps)

pub returns-in-Some-clause-part : goal.returns-in-Some-clause-part
returns-in-Some-clause-part c = grind (arith, common_steps)

pub returns-in_default-extend-clause-asked : goal.returns-in_default-extend-clause-asked
returns-in_default-extend-clause-asked c = grind (arith, common_steps)

pub returns-clause-asked : goal.returns-clause-asked
returns-clause-asked c = grind (arith, common_steps)

pub returns-in_default-extend-clause-kept : goal.returns-in_default-extend-clause-kept
returns-in_default-extend-clause-kept c = grind (arith, common_steps)

pub returns-in-Some-clause-kept : goal.returns-in-Some-clause-kept
returns-in-Some-clause-kept c = grind (arith, common_steps)

pub returns-in-Some-clause-asked : goal.returns-in-Some-clause-asked
returns-in-Some-clause-asked c = grind (arith, common_steps)

pub returns-in_default-extend-clause-failed : goal.returns-in_default-extend-clause-failed
returns-in_default-extend-clause-failed c = grind (arith, common_steps)

pub returns-in_default-extend-clause-part : goal.returns-in_default-extend-clause-part
returns-in_default-extend-clause-part c = grind (arith, common_steps)

pub returns-in-Some-clause-failed : goal.returns-in-Some-clause-failed
returns-in-Some-clause-failed c = grind (arith, common_steps)
