use Rattle.std.proofs.Common.{◌≡◌, ◌+◌, ◌≤◌, length}
use Rattle.test_examples.proofs.networks.network_of.Given as goal

abbrev pub invariant-pipes : goal.invariant-pipes
invariant-pipes l = (l.network.nodes ≡ l.nodes) × (length l.pipes ≤ l.network.spare + l.from-index)
