use Rattle.max_flow.proofs.Searching.{IsVisiting}
use Rattle.max_flow.proofs.levels.visit.Given as goal

abbrev pub invariant-arcs : goal.invariant-arcs
invariant-arcs l = IsVisiting l.graph.pipes.now l.graph.nodes l.graph.source l.backward l.initial.levels l.levels l.initial.waiting l.waiting l.node l.cursor

abbrev pub decreases-arcs : goal.decreases-arcs
decreases-arcs l = l.cursor
