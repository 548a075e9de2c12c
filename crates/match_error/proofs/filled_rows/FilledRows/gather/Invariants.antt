use Rattle.match_error.specs.Rows.{AreRunsTo}
use Rattle.match_error.proofs.filled_rows.FilledRows.gather.Given as goal

abbrev pub invariant-loop-row : goal.invariant-loop-row
invariant-loop-row l = AreRunsTo l.canvas.map l.rect l.row l.starts.items l.runs.items
