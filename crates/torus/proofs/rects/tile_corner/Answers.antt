use Rattle.std.proofs.Common.{arith}
use Rattle.std.proofs.lemmas.Grind.{common_steps}
use Rattle.torus.proofs.rects.tile_corner.Goals as goal

pub returns-then-wrapped : goal.returns-then-wrapped
returns-then-wrapped c = grind (arith, common_steps)

pub around_axis-requires : goal.around_axis-requires
around_axis-requires c = grind (arith, common_steps)
