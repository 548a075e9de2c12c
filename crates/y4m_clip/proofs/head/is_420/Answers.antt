use Rattle.std.proofs.Common.{arith}
use Rattle.std.proofs.lemmas.Grind.{common_steps}
use Rattle.y4m_clip.proofs.head.is_420.Goals as goal

pub returns-else-is_word-3 : goal.returns-else-is_word-3
returns-else-is_word-3 c = grind (arith, common_steps)

pub returns-then-is_word-3 : goal.returns-then-is_word-3
returns-then-is_word-3 c = grind (arith, common_steps)
