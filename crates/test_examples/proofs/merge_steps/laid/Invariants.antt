use Rattle.map_canvas.specs.Canvases.{StandsOver}
use Rattle.test_examples.proofs.merge_steps.laid.Given as goal

-- each canvas so far stands over the pictures
abbrev pub invariant-cells : goal.invariant-cells
invariant-cells g l = StandsOver l.canvas l.pictures
