use Rattle.std.proofs.Common.{arith}
use Rattle.std.proofs.lemmas.Grind.{common_steps}
use Rattle.y4m_clip.proofs.frames.bound_of.Goals as goal

pub nonzero_div-most : goal.nonzero_div-most
nonzero_div-most c = grind (arith, common_steps)

pub returns : goal.returns
returns c = grind (arith, common_steps)
