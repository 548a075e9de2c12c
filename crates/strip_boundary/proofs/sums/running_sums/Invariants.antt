use Rattle.strip_boundary.specs.Tables.{AreTightUpTo}
use Rattle.strip_boundary.proofs.sums.running_sums.Given as goal

abbrev pub invariant-loop-row : goal.invariant-loop-row
invariant-loop-row l = AreTightUpTo l.strip l.sums.items l.row 0
