use Rattle.std.proofs.Common.{arith}
use Rattle.std.proofs.lemmas.Grind.{common_steps}
use Rattle.y4m_clip.proofs.lay.lay.Goals as goal

pub returns-then-piece-eq2 : goal.returns-then-piece-eq2
returns-then-piece-eq2 c = grind (arith, common_steps)

pub returns : goal.returns
returns c = grind (arith, common_steps)

pub returns-then-piece-eq1 : goal.returns-then-piece-eq1
returns-then-piece-eq1 c = grind (arith, common_steps)

pub bounds-planes-at-then-piece-eq2-2 : goal.bounds-planes-at-then-piece-eq2-2
bounds-planes-at-then-piece-eq2-2 c = grind (arith, common_steps)
