use Rattle.std.proofs.Common.{◌<◌, ◌≤◌, ℕ, slice_index}
use Rattle.max_flow.specs.Residual.{residual}
use Rattle.max_flow.proofs.blocking.bottleneck.Given as goal

abbrev pub invariant-loop-arc : goal.invariant-loop-arc
invariant-loop-arc l =
    (0 < l.least) × ((k : ℕ) → k < l.arc-index → l.least ≤ residual l.graph.pipes.now l.backward (slice_index l.path k))
