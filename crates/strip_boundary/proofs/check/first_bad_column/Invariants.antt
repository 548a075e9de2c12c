use Rattle.std.proofs.Common.{ℕ, ◌<◌}
use Rattle.strip_boundary.specs.Records.{ColumnHolds}
use Rattle.strip_boundary.proofs.check.first_bad_column.Given as goal

abbrev pub invariant-loop-row : goal.invariant-loop-row
invariant-loop-row l = (row : ℕ) → row < l.row → ColumnHolds l.strip l.path row
