use Rattle.std.proofs.Common.{◌*◌}
use Rattle.cut_check.specs.Steps.{IsSummed}
use Rattle.cut_check.proofs.balance.value_of.Given as goal

abbrev pub invariant-loop-row : goal.invariant-loop-row
invariant-loop-row l = IsSummed l.canvas.map l.cut l.held (l.cut.placement.rect.size.w * l.row) l.sum
