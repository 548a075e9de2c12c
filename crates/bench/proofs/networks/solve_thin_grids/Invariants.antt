use Rattle.std.proofs.Common.{◌≡◌, ◌+◌, ◌*◌, ◌≤◌}
use Rattle.bench.specs.declared.networks.TheConstants.{RAILS}
use Rattle.bench.proofs.networks.solve_thin_grids.Given as goal

abbrev pub invariant-loop-cell : goal.invariant-loop-cell
invariant-loop-cell l = record {
  nodes : l.network.nodes ≡ l.fn.steps * RAILS + 2;
  room : 3 * l.cells ≤ l.network.spare + 3 * l.cell;
}
