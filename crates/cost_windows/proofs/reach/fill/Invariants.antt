use Rattle.std.proofs.Common.{◌≡◌, ◌≤◌, ◌<◌, ℕ, ◌+◌, ◌*◌, ◌/◌, ◌%◌, get_or}
use Rattle.cells.specs.Distances.{distance}
use Rattle.cells.specs.Places.{spot}
use Rattle.map_canvas.specs.Maps.{map_at}
use Rattle.costs.specs.Costs.{most_of_pair, pair_at}
use Rattle.cost_windows.proofs.reach.fill.Given as goal

abbrev pub invariant-loop-row : goal.invariant-loop-row
invariant-loop-row l = record {
  costs : (row k : ℕ) → row < l.row → k < l.block.x.len → get_or l.costs (k + l.block.x.len * row) 0 ≡ pair_at (distance l.sample) (map_at l.map) l.axis (spot (l.block.x.from + k) (l.block.y.from + row % l.block.y.len) (l.block.f.from + row / l.block.y.len));
  small : (i : ℕ) → i < l.block.x.len * l.row → get_or l.costs i 0 ≤ most_of_pair;
}
