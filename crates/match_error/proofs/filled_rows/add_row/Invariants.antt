use Rattle.std.proofs.Common.{◌≤◌, ◌-◌}
use Rattle.match_error.specs.Rows.{AreMoreRuns, IsFilledAt}
use Rattle.match_error.proofs.filled_rows.add_row.Given as goal

abbrev pub invariant-cells : goal.invariant-cells
invariant-cells l = record {
  most : l.x ≤ l.rect.size.w;
  runs : AreMoreRuns (IsFilledAt l.canvas.map l.rect l.y l.f) l.x l.fn.runs.items l.runs.items;
}

abbrev pub decreases-cells : goal.decreases-cells
decreases-cells l = l.w - l.x
