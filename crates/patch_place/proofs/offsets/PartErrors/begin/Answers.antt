use Rattle.std.proofs.Common.{arith}
use Rattle.std.proofs.lemmas.Grind.{common_steps}
use Rattle.cells.proofs.BoxLaws.{box_small}
use Rattle.patch_place.proofs.offsets.PartErrors.begin.Goals as goal

pub layout_for-requires-clause-rect : goal.layout_for-requires-clause-rect
layout_for-requires-clause-rect c = λ some. (box_small c.args.canvas.now.map.size c.args.around.now.rect.corner c.args.around.now.rect.size c.map-map.ensures.canvas.map.small some c.requires.held).axes

pub overflow_shl-worth : goal.overflow_shl-worth
overflow_shl-worth c = grind (arith, common_steps)

pub part_after-size-requires-clause-below : goal.part_after-size-requires-clause-below
part_after-size-requires-clause-below c = grind (arith, common_steps)
