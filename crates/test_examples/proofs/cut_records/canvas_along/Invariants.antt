use Rattle.map_canvas.specs.Canvases.{StandsOver}
use Rattle.test_examples.proofs.cut_records.canvas_along.Given as goal

abbrev pub invariant-sources : goal.invariant-sources
invariant-sources g l = StandsOver l.canvas l.sample
