use Rattle.boxes.specs.Walks.{IsAtIndex}
use Rattle.boxes.specs.Pairs.{pairs_before}
use Rattle.cut_graph.specs.Plans.{IsPiped, before}
use Rattle.cut_graph.proofs.piping.lay_pipes.Given as goal

abbrev pub invariant-loop-i : goal.invariant-loop-i
invariant-loop-i l = record {
  at : IsAtIndex l.size l.i l.at.x l.at.y l.at.f;
  piping : IsPiped l.plan l.nodes (before l.plan l.i) (pairs_before l.size l.i) l.piping;
}
