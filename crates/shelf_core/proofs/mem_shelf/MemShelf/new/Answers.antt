use Rattle.std.proofs.Common.{arith}
use Rattle.std.proofs.lemmas.Grind.{common_steps}
use Rattle.shelf_core.proofs.mem_shelf.MemShelf.new.Goals as goal

pub returns : goal.returns
returns c = grind (arith, common_steps)
