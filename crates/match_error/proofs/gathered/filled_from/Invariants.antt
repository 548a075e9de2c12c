use Rattle.std.proofs.Common.{◌≤◌, ◌<◌, ◌-◌, ℕ}
use Rattle.cells.specs.Places.{plus, spot}
use Rattle.map_canvas.specs.Maps.{IsFilled}
use Rattle.match_error.proofs.gathered.filled_from.Given as goal

abbrev pub invariant-filled : goal.invariant-filled
invariant-filled l = record {
  most : l.n ≤ l.most;
  filled : (j : ℕ) → j < l.n → IsFilled l.canvas.map (plus l.at (spot j 0 0));
}

abbrev pub decreases-filled : goal.decreases-filled
decreases-filled l = l.most - l.n
