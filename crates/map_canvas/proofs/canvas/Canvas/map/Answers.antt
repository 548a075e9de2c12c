use Rattle.std.proofs.Common.{arith}
use Rattle.std.proofs.lemmas.Grind.{common_steps}
use Rattle.map_canvas.proofs.canvas.Canvas.map.Goals as goal

pub returns-clause-canvas : goal.returns-clause-canvas
returns-clause-canvas c = grind (arith, common_steps)
