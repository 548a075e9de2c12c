use Rattle.std.proofs.Common.{◌≡◌, ◌+◌, ◌*◌, ◌≤◌}
use Rattle.bench.proofs.networks.solve_combs.Given as goal

abbrev pub invariant-loop-giver : goal.invariant-loop-giver
invariant-loop-giver l = record {
  nodes : l.network.nodes ≡ 2 * l.givers + 2;
  room : 2 * l.givers + l.legs ≤ l.network.spare + 2 * l.giver;
}

abbrev pub invariant-loop-i : goal.invariant-loop-i
invariant-loop-i l = record {
  nodes : l.network.nodes ≡ 2 * l.givers + 2;
  room : l.legs ≤ l.network.spare + l.i;
}
