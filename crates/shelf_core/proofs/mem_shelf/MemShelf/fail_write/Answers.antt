use Rattle.std.proofs.Common.{arith}
use Rattle.std.proofs.lemmas.Grind.{common_steps}
use Rattle.shelf_core.proofs.mem_shelf.MemShelf.fail_write.Goals as goal

pub returns-clause-one : goal.returns-clause-one
returns-clause-one c = grind (arith, common_steps)
