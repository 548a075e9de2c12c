use Rattle.std.proofs.Common.{◌≡◌}
use Rattle.std.specs.Prelude.{vec_capacity}
use Rattle.boxes.specs.Pairs.{pair_count}
use Rattle.boxes.specs.Walks.{IsAtIndex}
use Rattle.graph_place.specs.Parts.{flows_before}
use Rattle.graph_place.proofs.record.flows_of.Given as goal

abbrev pub invariant-loop-i : goal.invariant-loop-i
invariant-loop-i l = record {
  at : IsAtIndex l.size l.i l.at.x l.at.y l.at.f;
  flows : l.flows.items ≡ flows_before l.map l.placement l.places l.solved.flow l.i;
  room : vec_capacity l.flows ≡ pair_count l.placement.rect.size;
}
