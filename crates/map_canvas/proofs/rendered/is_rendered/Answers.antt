use Rattle.std.proofs.Common.{◌≡◌, refl, sym, ap, ◌∙◌, subst, arith, below_more}
use mathlib.Core.Bool.{false≢true}
use Rattle.cells.specs.Places.{cell_count, place_of}
use Rattle.map_canvas.specs.Canvases.{IsRenderedAt}
use Rattle.map_canvas.proofs.Rendering.{rendered_all}
use Rattle.map_canvas.proofs.rendered.is_rendered.Goals as goal

pub returns-then-not-is_rendered_at : goal.returns-then-not-is_rendered_at
returns-then-not-is_rendered_at c =
    (λ wrong. absurd (false≢true wrong), λ all. absurd (false≢true (sym c.if-not-is_rendered_at.true ∙ c.is_rendered_at.ensures.1 (all c.place_at.result))))

pub loop-i-preserved : goal.loop-i-preserved
loop-i-preserved c =
    let m = c.args.map.now in
    let i = c.loop-i.i in
    let here : c.place_at.result ≡ place_of m.size i = c.place_at.ensures ∙ ap (λ size. place_of size i) c.size-size.ensures.size in
    below_more (λ k. IsRenderedAt m c.args.picture.now c.args.sample.now (place_of m.size k)) i c.loop-i.invariant
    (subst (IsRenderedAt m c.args.picture.now c.args.sample.now) here (c.is_rendered_at.ensures.0 c.if-not-is_rendered_at.false))

pub returns : goal.returns
returns c =
    let m = c.args.map.now in
    let count : c.cells-i-end.result ≡ cell_count m.size = c.cells-i-end.ensures ∙ ap cell_count c.size-size.ensures.size in
    (λ done. rendered_all m c.args.picture.now c.args.sample.now c.size-size.ensures.map (λ i lt. c.loop-i.invariant i (omega (arith, count, c.loop-i-test.false))), λ all. refl)
