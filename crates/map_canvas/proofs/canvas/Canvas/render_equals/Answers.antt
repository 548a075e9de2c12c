use Rattle.std.proofs.Common.{◌≡◌, sym, subst, arith}
use Rattle.map_canvas.specs.Canvases.{CanvasState, IsRendered}
use Rattle.map_canvas.proofs.Rendering.{stands_of, rendered_of}
use Rattle.map_canvas.proofs.canvas.Canvas.render_equals.Goals as goal

pub returns-then-samples : goal.returns-then-samples
returns-then-samples c =
    let sample = c.args.sample.now in
    let same : c.self.inside.picture.k ≡ sample.k = omega (arith, c.if-samples.true, c.samples.ensures.samples, c.samples-2.ensures.samples) in
    let k : c.args.self.now.picture.k ≡ sample.k = subst (λ (s : CanvasState). s.picture.k ≡ sample.k) c.self.view_is same in (
      λ yes. stands_of c.args.self.now sample k (subst (λ (s : CanvasState). IsRendered s.map s.picture sample) c.self.view_is (c.is_rendered.ensures.0 yes)),
      λ stands. c.is_rendered.ensures.1 (subst (λ (s : CanvasState). IsRendered s.map s.picture sample) (sym c.self.view_is) (rendered_of c.args.self.now sample stands)),
    )
