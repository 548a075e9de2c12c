use Rattle.std.proofs.Common.{◌≡◌, ◌≤◌, ◌*◌}
use Rattle.cells.specs.Places.{plus, spot}
use Rattle.map_canvas.specs.Maps.{map_at}
use Rattle.boxes.specs.Sums.{sum_to}
use Rattle.match_error.specs.Errors.{one_filled}
use Rattle.match_error.proofs.counts.filled_count.Given as goal

abbrev pub invariant-loop-f : goal.invariant-loop-f
invariant-loop-f l = record {
  count : l.count ≡ sum_to l.f (λ f. sum_to l.rect.size.h (λ y. sum_to l.rect.size.w (λ x. one_filled (map_at l.canvas.map (plus l.rect.corner (spot x y f))))));
  fits : l.count ≤ l.rect.size.w * (l.rect.size.h * l.f);
}
