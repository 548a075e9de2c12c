use Rattle.std.proofs.Common.{arith}
use Rattle.std.proofs.lemmas.Grind.{common_steps}
use Rattle.y4m_clip.proofs.head.spelled.Goals as goal

pub returns-clause-none : goal.returns-clause-none
returns-clause-none c = grind (arith, common_steps)

pub returns-then-is_420-clause-some : goal.returns-then-is_420-clause-some
returns-then-is_420-clause-some c = grind (arith, common_steps)
