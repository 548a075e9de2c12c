use Rattle.quilted.specs.Totals.{IsLeastAt}
use Rattle.quilted.proofs.totals.least_at.Given as goal

abbrev pub invariant-loop-i : goal.invariant-loop-i
invariant-loop-i l = IsLeastAt l.numbers l.i l.least
