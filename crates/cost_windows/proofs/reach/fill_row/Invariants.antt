use Rattle.std.proofs.Common.{◌≡◌, ◌≤◌, ◌<◌, ℕ, ◌+◌, get_or}
use Rattle.cells.specs.Distances.{distance}
use Rattle.cells.specs.Places.{spot}
use Rattle.map_canvas.specs.Maps.{map_at}
use Rattle.costs.specs.Costs.{most_of_pair, pair_at}
use Rattle.cost_windows.proofs.reach.fill_row.Given as goal

abbrev pub invariant-loop-k : goal.invariant-loop-k
invariant-loop-k l = record {
  costs : (i : ℕ) → i < l.k → get_or l.costs i 0 ≡ pair_at (distance l.sample) (map_at l.map) l.axis (spot (l.fn.first.x + i) l.fn.first.y l.fn.first.f);
  small : (i : ℕ) → i < l.k → get_or l.costs i 0 ≤ most_of_pair;
}
