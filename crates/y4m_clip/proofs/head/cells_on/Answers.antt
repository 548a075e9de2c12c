use Rattle.std.proofs.Common.{arith}
use Rattle.std.proofs.lemmas.Grind.{common_steps}
use Rattle.y4m_clip.proofs.head.cells_on.Goals as goal

pub returns-clause-some : goal.returns-clause-some
returns-clause-some c = grind (arith, common_steps)

pub returns-then-from-cell-ne0-clause-none : goal.returns-then-from-cell-ne0-clause-none
returns-then-from-cell-ne0-clause-none c = grind (arith, common_steps)
