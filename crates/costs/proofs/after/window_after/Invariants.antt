use Rattle.std.proofs.Common.{◌≡◌, ◌≤◌, ◌*◌}
use Rattle.cells.specs.Distances.{distance}
use Rattle.cells.specs.Boxes.{cell_in}
use Rattle.boxes.specs.Sums.{sum_to}
use Rattle.boxes.specs.Pairs.{at_index}
use Rattle.boxes.specs.Walks.{IsAtIndex}
use Rattle.costs.specs.Choosing.{within_after}
use Rattle.costs.specs.Costs.{most_of_cell, pairs_at}
use Rattle.costs.proofs.after.window_after.Given as goal

abbrev pub invariant-loop-i : goal.invariant-loop-i
invariant-loop-i l = record {
  at : IsAtIndex l.placement.rect.size l.i l.at.x l.at.y l.at.f;
  sum : l.sum ≡ sum_to l.i (at_index l.placement.rect.size (λ x y f. pairs_at (distance l.sample) (within_after l.after.0.now l.placement l.choice) (cell_in l.placement.rect x y f)));
  fits : l.sum ≤ most_of_cell * l.i;
}
