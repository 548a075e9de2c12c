use Rattle.std.proofs.Common.{◌≡◌, ◌-◌, length}
use Rattle.max_flow.specs.Residual.{total_capacity}
use Rattle.max_flow.proofs.Augmenting.{IsBlocking}
use Rattle.max_flow.proofs.blocking.blocking_flow.Given as goal

abbrev pub invariant-paths : goal.invariant-paths
invariant-paths l =
    IsBlocking l.graph.pipes.now l.graph.nodes l.graph.source l.graph.sink l.levels l.backward l.current l.initial.value l.value × (length l.path ≡ l.graph.nodes)

abbrev pub decreases-paths : goal.decreases-paths
decreases-paths l = total_capacity l.graph.pipes.now - l.value
