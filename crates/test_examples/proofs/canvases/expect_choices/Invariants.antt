use Rattle.map_canvas.specs.Canvases.{StandsOver}
use Rattle.test_examples.proofs.canvases.expect_choices.Given as goal

abbrev pub invariant-choices : goal.invariant-choices
invariant-choices g l = StandsOver l.canvas l.sample
