use Rattle.std.proofs.Common.{◌≡◌, ◌≤◌, ◌*◌}
use Rattle.cells.specs.Distances.{distance}
use Rattle.boxes.specs.Sums.{sum_to}
use Rattle.costs.specs.Costs.{most_of_row, pairs_of_row}
use Rattle.costs.proofs.sums.frame.Given as goal

abbrev pub invariant-loop-y : goal.invariant-loop-y
invariant-loop-y g l = record {
  sum : l.sum ≡ sum_to l.y (λ y. pairs_of_row (distance l.sample) (g.S.Sources.source_at l.sources) l.rect y l.f);
  fits : l.sum ≤ most_of_row * l.y;
}
