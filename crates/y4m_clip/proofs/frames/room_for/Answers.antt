use Rattle.std.proofs.Common.{arith}
use Rattle.std.proofs.lemmas.Grind.{common_steps}
use Rattle.y4m_clip.proofs.frames.room_for.Goals as goal

pub returns : goal.returns
returns c = grind (arith, common_steps)
