use Rattle.std.proofs.Common.{arith}
use Rattle.std.proofs.lemmas.Grind.{common_steps}
use Rattle.patch_place.proofs.overlaps.OverlapsBoxErrors.hint.Goals as goal

pub minus-requires : goal.minus-requires
minus-requires c = grind (arith, common_steps)

pub plus-requires : goal.plus-requires
plus-requires c = grind (arith, common_steps)
