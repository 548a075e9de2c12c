use Rattle.std.proofs.Common.{arith}
use Rattle.std.proofs.lemmas.Grind.{common_steps}
use Rattle.y4m_clip.proofs.head.allowed.Goals as goal

pub returns-then-h-from : goal.returns-then-h-from
returns-then-h-from c = grind (arith, common_steps)
