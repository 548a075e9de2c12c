use Rattle.std.proofs.Common.{◌≡◌, ◌+◌, ◌*◌, length}
use Rattle.match_error.specs.Tables.{AreEntries}
use Rattle.match_error.proofs.table.FilledCounts.make.Given as goal

abbrev pub invariant-loop-row : goal.invariant-loop-row
invariant-loop-row l = record {
  long : length l.entries.items ≡ (l.rect.size.w + 1) * (l.row + 1);
  are : AreEntries l.canvas.map l.rect l.row l.entries.items;
}
