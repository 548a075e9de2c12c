use Rattle.std.proofs.Common.{◌≡◌, ◌-◌, length}
use Rattle.max_flow.specs.Residual.{Carries, total_capacity}
use Rattle.max_flow.proofs.solver.run.Given as goal

abbrev pub invariant-phases : goal.invariant-phases
invariant-phases l =
    Carries l.graph.pipes.now l.graph.source l.graph.sink l.backward l.value
    × (length l.levels ≡ l.graph.nodes)

abbrev pub decreases-phases : goal.decreases-phases
decreases-phases l = total_capacity l.graph.pipes.now - l.value
