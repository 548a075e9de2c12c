use Rattle.strip_boundary.specs.Tables.{AreTightUpTo}
use Rattle.strip_boundary.proofs.sums.add_row.Given as goal

abbrev pub invariant-loop-col : goal.invariant-loop-col
invariant-loop-col l = AreTightUpTo l.strip l.sums.items l.row l.col
