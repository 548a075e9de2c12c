use Rattle.map_canvas.specs.Canvases.{StandsOver}
use Rattle.test_examples.proofs.laying.canvas_with.Given as goal

abbrev pub invariant-cells : goal.invariant-cells
invariant-cells g l = StandsOver l.canvas l.sample
