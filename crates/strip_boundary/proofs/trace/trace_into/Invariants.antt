use Rattle.strip_boundary.specs.Tables.{IsTracedFrom}
use Rattle.strip_boundary.proofs.trace.trace_into.Given as goal

abbrev pub invariant-loop-row : goal.invariant-loop-row
invariant-loop-row l = IsTracedFrom l.strip l.sums l.path l.row
