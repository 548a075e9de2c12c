use Rattle.std.proofs.Common.{◌≡◌, ◌≤◌, ◌+◌, ◌*◌}
use Rattle.boxes.specs.Sums.{sum_to}
use Rattle.match_error.specs.Errors.{row_error, most_frame_error, most_row_error}
use Rattle.match_error.proofs.overlap.with_frame.Given as goal

abbrev pub invariant-loop-y : goal.invariant-loop-y
invariant-loop-y l = record {
  sum : l.sum ≡ l.before + sum_to l.y (λ y. row_error l.canvas.map l.sample l.placement y l.f);
  most : l.sum ≤ l.limit;
  fits : l.sum ≤ most_frame_error * l.f + most_row_error * l.y;
}
