use Rattle.std.proofs.Common.{arith}
use Rattle.std.proofs.lemmas.Grind.{common_steps}
use Rattle.cells.proofs.sizes.Sizes.at.Goals as goal

pub returns-clause-axes : goal.returns-clause-axes
returns-clause-axes c = grind (arith, common_steps)

pub bounds-as_slice-part : goal.bounds-as_slice-part
bounds-as_slice-part c = grind (arith, common_steps)
