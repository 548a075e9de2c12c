use Rattle.std.proofs.Common.{◌≡◌, ◌≤◌, ◌*◌}
use Rattle.cells.specs.Distances.{distance}
use Rattle.boxes.specs.Sums.{sum_to}
use Rattle.costs.specs.Costs.{most_of_frame, pairs_of_frame}
use Rattle.costs.proofs.sums.pairs_of_box.Given as goal

abbrev pub invariant-loop-f : goal.invariant-loop-f
invariant-loop-f g l = record {
  sum : l.sum ≡ sum_to l.f (λ f. pairs_of_frame (distance l.sample) (g.S.Sources.source_at l.sources) l.rect f);
  fits : l.sum ≤ most_of_frame * l.f;
}
