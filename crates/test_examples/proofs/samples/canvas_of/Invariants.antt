use Rattle.map_canvas.specs.Canvases.{StandsOver}
use Rattle.test_examples.proofs.samples.canvas_of.Given as goal

abbrev pub invariant-cells : goal.invariant-cells
invariant-cells l = StandsOver l.canvas l.sample
