use Rattle.std.proofs.Common.{◌*◌}
use Rattle.cells.specs.Firsts.{Each}
use Rattle.block_check.specs.Steps.{IsSharedAt}
use Rattle.block_check.proofs.check.first_unlike.Given as goal

abbrev pub invariant-loop-y : goal.invariant-loop-y
invariant-loop-y l = Each (l.placement.rect.size.w * l.y) (IsSharedAt l.canvas.map l.placement l.left l.top)
