use Rattle.std.proofs.Common.{arith}
use Rattle.std.proofs.lemmas.Grind.{common_steps}
use Rattle.y4m_clip.proofs.write.ClipWriter.make.Goals as goal

pub room_for-requires : goal.room_for-requires
room_for-requires c = grind (arith, common_steps)
