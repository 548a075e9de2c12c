use Rattle.cost_windows.specs.Tables.{IsGreatest}
use Rattle.cost_windows.proofs.tops.greatest.Given as goal

abbrev pub invariant-loop-i : goal.invariant-loop-i
invariant-loop-i l = IsGreatest l.numbers l.i l.best
