use Rattle.std.proofs.Common.{arith}
use Rattle.std.proofs.lemmas.Grind.{common_steps}
use Rattle.std.proofs.Common.{ap, ◌∙◌, subst}
use Rattle.map_canvas.specs.Canvases.{CanvasState, IsCanvas}
use Rattle.map_canvas.proofs.Pictures.{full_picture}
use Rattle.map_canvas.proofs.canvas.Canvas.picture.Goals as goal

pub returns-clause-full : goal.returns-clause-full
returns-clause-full c = λ sample stands full.
    ap (λ (canvas : CanvasState). canvas.picture) c.self.view_is ∙ full_picture c.args.self.now sample (subst IsCanvas c.self.view_is c.self.invariant.0) stands full

pub returns-clause-canvas : goal.returns-clause-canvas
returns-clause-canvas c = grind (arith, common_steps)
