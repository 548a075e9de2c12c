use Rattle.std.proofs.Common.{◌*◌}
use Rattle.cells.specs.Firsts.{Each}
use Rattle.cut_check.specs.Steps.{KeepsOld}
use Rattle.cut_check.proofs.rules.first_new.Given as goal

abbrev pub invariant-loop-row : goal.invariant-loop-row
invariant-loop-row l = Each (l.cut.placement.rect.size.w * l.row) (KeepsOld l.canvas.map l.cut l.held)
