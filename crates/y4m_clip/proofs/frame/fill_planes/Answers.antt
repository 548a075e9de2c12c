use Rattle.std.proofs.Common.{arith}
use Rattle.std.proofs.lemmas.Grind.{common_steps}
use Rattle.y4m_clip.proofs.frame.fill_planes.Goals as goal

pub returns-then-count-planes-clause-fills : goal.returns-then-count-planes-clause-fills
returns-then-count-planes-clause-fills g c = grind (arith, common_steps)

pub returns-clause-fills : goal.returns-clause-fills
returns-clause-fills g c = grind (arith, common_steps)
