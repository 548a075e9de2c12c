use Rattle.std.specs.Prelude.{◌≡◌, vec_capacity, vec_len}
use Rattle.boxes.specs.Walks.{IsAtIndex}
use Rattle.boxes.specs.Pairs.{pair_count, pairs_before}
use Rattle.cut_graph.specs.Building.{AreSeamNodes}
use Rattle.cut_graph.proofs.seam_nodes.number_seams.Given as goal

abbrev pub invariant-loop-i : goal.invariant-loop-i
invariant-loop-i l = record {
  at : IsAtIndex l.size l.i l.at.x l.at.y l.at.f;
  seams : AreSeamNodes l.cells l.size l.first (pairs_before l.size l.i) l.seams;
  number : vec_len l.seams.nodes ≡ pairs_before l.size l.i;
  room : vec_capacity l.seams.nodes ≡ pair_count l.size;
}
