use Rattle.map_canvas.specs.Canvases.{StandsOver}
use Rattle.test_examples.proofs.tilings.laid_twice.Given as goal

abbrev pub invariant-cells : goal.invariant-cells
invariant-cells l = StandsOver l.laid l.sample
