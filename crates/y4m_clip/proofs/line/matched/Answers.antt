use Rattle.std.proofs.Common.{arith}
use Rattle.std.proofs.lemmas.Grind.{common_steps}
use Rattle.y4m_clip.proofs.line.matched.Goals as goal

pub matching-preserved : goal.matching-preserved
matching-preserved c = grind (arith, common_steps)

pub bounds-word-n : goal.bounds-word-n
bounds-word-n c = grind (arith, common_steps)

pub bounds-text-n : goal.bounds-text-n
bounds-text-n c = grind (arith, common_steps)
