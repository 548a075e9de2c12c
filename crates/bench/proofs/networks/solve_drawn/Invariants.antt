use Rattle.std.proofs.Common.{◌≡◌, ◌+◌, ◌*◌, ◌≤◌}
use Rattle.bench.proofs.networks.solve_drawn.Given as goal

abbrev pub invariant-loop-pair : goal.invariant-loop-pair
invariant-loop-pair l = record {
  nodes : l.network.nodes ≡ l.nodes + 2;
  room : 2 * l.ends + l.pipes ≤ l.network.spare + 2 * l.pair;
}

abbrev pub invariant-loop-i : goal.invariant-loop-i
invariant-loop-i l = record {
  nodes : l.network.nodes ≡ l.nodes + 2;
  room : l.pipes ≤ l.network.spare + l.i;
}
