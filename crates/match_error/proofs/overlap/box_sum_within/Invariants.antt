use Rattle.std.proofs.Common.{◌≡◌, ◌≤◌, ◌*◌}
use Rattle.boxes.specs.Sums.{sum_to}
use Rattle.match_error.specs.Errors.{frame_error, most_frame_error}
use Rattle.match_error.proofs.overlap.box_sum_within.Given as goal

abbrev pub invariant-loop-f : goal.invariant-loop-f
invariant-loop-f l = record {
  sum : l.sum ≡ sum_to l.f (λ f. frame_error l.canvas.map l.sample l.placement f);
  most : l.sum ≤ l.limit;
  fits : l.sum ≤ most_frame_error * l.f;
}
