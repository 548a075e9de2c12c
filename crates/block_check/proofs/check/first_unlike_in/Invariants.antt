use Rattle.cells.specs.Firsts.{Each}
use Rattle.block_check.specs.Steps.{IsSharedCell}
use Rattle.block_check.proofs.check.first_unlike_in.Given as goal

abbrev pub invariant-loop-x : goal.invariant-loop-x
invariant-loop-x l = Each l.x (λ x. IsSharedCell l.canvas.map l.placement l.left l.top x l.y)
