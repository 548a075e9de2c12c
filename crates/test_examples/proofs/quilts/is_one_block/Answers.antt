use Rattle.std.proofs.Common.{◌≡◌, arith, ap, sym}
use Rattle.cells.specs.declared.place.Size.{Size}
use Rattle.map_canvas.specs.Canvases.{CanvasState}
use Rattle.test_examples.proofs.quilts.is_one_block.Goals as goal

pub is_first_block-requires-clause-pictures : goal.is_first_block-requires-clause-pictures
is_first_block-requires-clause-pictures c =
    let size = ap (λ (s : Size). s.f) c.size.ensures.size in
    let samples : c.args.sample.now.k ≡ 3 = omega (arith, c.samples.ensures.samples, c.if-samples-ne3.false) in
    let frame : c.args.sample.now.size.f ≡ 1 = omega (arith, size, c.if-size-ne1.false) in
    record {
      over = c.in_ok-canvas.ensures.stands c.args.sample.now (sym c.samples-2.ensures.samples);
      samples = samples;
      part = c.is_one_part.ensures c.if-not-is_one_part.false;
      output_frame = ap (λ (canvas : CanvasState). canvas.map.size.f) c.in_ok-canvas.ensures.empty;
      sample_frame = frame;
    }
