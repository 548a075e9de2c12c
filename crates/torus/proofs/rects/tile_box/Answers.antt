use Rattle.std.proofs.Common.{arith}
use Rattle.std.proofs.lemmas.Grind.{common_steps}
use Rattle.torus.proofs.rects.tile_box.Goals as goal

pub tile_corner-requires-3-clause-q : goal.tile_corner-requires-3-clause-q
tile_corner-requires-3-clause-q c = grind (arith, common_steps)

pub tile_corner-requires-2-clause-q : goal.tile_corner-requires-2-clause-q
tile_corner-requires-2-clause-q c = grind (arith, common_steps)

pub tile_corner-requires-clause-q : goal.tile_corner-requires-clause-q
tile_corner-requires-clause-q c = grind (arith, common_steps)
