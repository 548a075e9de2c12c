use Rattle.std.proofs.Common.{ap, sym}
use Rattle.map_canvas.specs.Canvases.{CanvasState}
use Rattle.test_examples.proofs.transfer_steps.two_blocks.Goals as goal

pub assert_blocks-requires-clause-pictures : goal.assert_blocks-requires-clause-pictures
assert_blocks-requires-clause-pictures g c = record {
  over = c.in-Ok-canvas.ensures.stands c.greys-sample.result (sym c.samples.ensures.samples);
  samples = c.greys-sample.ensures.samples;
  part = c.greys-sample.ensures.one;
  output_frame = ap (λ (canvas : CanvasState). canvas.map.size.f) c.in-Ok-canvas.ensures.empty;
  sample_frame = c.greys-sample.ensures.frame;
}
