use Rattle.std.proofs.Common.{arith}
use Rattle.std.proofs.lemmas.Grind.{common_steps}
use Rattle.y4m_clip.proofs.write.line_of.Goals as goal

pub overflow_mul-cell_height : goal.overflow_mul-cell_height
overflow_mul-cell_height c = grind (arith, common_steps)

pub overflow_mul-cell_width : goal.overflow_mul-cell_width
overflow_mul-cell_width c = grind (arith, common_steps)

pub returns : goal.returns
returns c = grind (arith, common_steps)
