use Rattle.std.proofs.Common.{arith}
use Rattle.std.proofs.lemmas.Grind.{common_steps}
use Rattle.patch_place.proofs.offsets.next_part.Goals as goal

pub returns-then-frames_before-count_of : goal.returns-then-frames_before-count_of
returns-then-frames_before-count_of c = grind (arith, common_steps)
