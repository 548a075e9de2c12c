use Rattle.max_flow.proofs.Walking.{IsPassing}
use Rattle.max_flow.proofs.paths.next_admissible.Given as goal

abbrev pub invariant-arcs : goal.invariant-arcs
invariant-arcs l = IsPassing l.graph.pipes.now l.backward l.levels l.node l.initial.cursor l.cursor

abbrev pub decreases-arcs : goal.decreases-arcs
decreases-arcs l = l.cursor
