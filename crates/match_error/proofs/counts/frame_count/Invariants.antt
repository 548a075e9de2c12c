use Rattle.std.proofs.Common.{◌≡◌, ◌≤◌, ◌*◌}
use Rattle.cells.specs.Places.{plus, spot}
use Rattle.map_canvas.specs.Maps.{map_at}
use Rattle.boxes.specs.Sums.{sum_to}
use Rattle.match_error.specs.Errors.{one_filled}
use Rattle.match_error.proofs.counts.frame_count.Given as goal

abbrev pub invariant-loop-y : goal.invariant-loop-y
invariant-loop-y l = record {
  count : l.count ≡ sum_to l.y (λ y. sum_to l.rect.size.w (λ x. one_filled (map_at l.canvas.map (plus l.rect.corner (spot x y l.f)))));
  fits : l.count ≤ l.rect.size.w * l.y;
}
