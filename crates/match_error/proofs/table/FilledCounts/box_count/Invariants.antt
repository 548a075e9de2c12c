use Rattle.std.proofs.Common.{◌≡◌, ◌≤◌, ◌+◌, ◌*◌}
use Rattle.boxes.specs.Sums.{sum_to}
use Rattle.match_error.specs.Tables.{one_in_row}
use Rattle.match_error.proofs.table.FilledCounts.box_count.Given as goal

abbrev pub invariant-loop-k : goal.invariant-loop-k
invariant-loop-k l = record {
  count : l.count ≡ sum_to l.k (λ k. sum_to l.size.h (λ j. sum_to l.size.w (λ i. one_in_row l.canvas.map l.self.rect (l.x + i) ((l.y + l.self.rect.size.h * (l.f + k)) + j))));
  fits : l.count ≤ l.size.w * (l.size.h * l.k);
}
