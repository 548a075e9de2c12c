use Rattle.std.proofs.Common.{arith}
use Rattle.std.proofs.lemmas.Grind.{common_steps}
use Rattle.y4m_clip.proofs.frames.past.Goals as goal

pub overflow_mul-result-2 : goal.overflow_mul-result-2
overflow_mul-result-2 c = grind (arith, common_steps)

pub returns : goal.returns
returns c = grind (arith, common_steps)
