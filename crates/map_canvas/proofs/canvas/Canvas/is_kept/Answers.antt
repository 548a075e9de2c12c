use Rattle.std.proofs.Common.{arith}
use Rattle.std.proofs.lemmas.Grind.{common_steps}
use Rattle.map_canvas.proofs.canvas.Canvas.is_kept.Goals as goal

pub returns-then-is_filled : goal.returns-then-is_filled
returns-then-is_filled c = grind (arith, common_steps)

pub returns-else-is_filled : goal.returns-else-is_filled
returns-else-is_filled c = grind (arith, common_steps)
