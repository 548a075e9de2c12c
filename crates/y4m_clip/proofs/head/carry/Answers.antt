use Rattle.std.proofs.Common.{arith}
use Rattle.std.proofs.lemmas.Grind.{common_steps}
use Rattle.y4m_clip.proofs.head.carry.Goals as goal

pub loop-tag-preserved : goal.loop-tag-preserved
loop-tag-preserved c = grind (arith, common_steps)

pub returns : goal.returns
returns c = grind (arith, common_steps)

pub bounds-tag-0-then-tag-ne87 : goal.bounds-tag-0-then-tag-ne87
bounds-tag-0-then-tag-ne87 c = grind (arith, common_steps)

pub bounds-tag-0 : goal.bounds-tag-0
bounds-tag-0 c = grind (arith, common_steps)
