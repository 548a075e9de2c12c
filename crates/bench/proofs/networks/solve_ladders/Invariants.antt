use Rattle.std.proofs.Common.{◌≡◌, ◌+◌, ◌*◌, ◌≤◌}
use Rattle.bench.proofs.networks.solve_ladders.Given as goal

abbrev pub invariant-loop-rung : goal.invariant-loop-rung
invariant-loop-rung l = record {
  nodes : l.network.nodes ≡ 2 * l.rungs + 2;
  room : 3 * l.rungs ≤ l.network.spare + 3 * l.rung;
}
