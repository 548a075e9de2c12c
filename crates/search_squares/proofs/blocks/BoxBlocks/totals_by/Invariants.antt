use Rattle.std.proofs.Common.{◌≤◌, ◌<◌, ◌-◌, ◌*◌, ℕ, get_or, length, take}
use Rattle.std.specs.List.{sum_by}
use Rattle.search_squares.proofs.RunEntries.{difference_at}
use Rattle.search_squares.proofs.blocks.BoxBlocks.totals_by.Given as goal

abbrev pub invariant-loop-i : goal.invariant-loop-i
invariant-loop-i l = record {
  totals : (j : ℕ) → j < l.n → 65536 * get_or l.totals j 0 ≤ l.scale.factor * l.scale.factor * sum_by (difference_at l.sample l.self.side l.fn.from j) (take l.i l.self.blocks.items);
  reached : l.i ≤ l.end;
}

abbrev pub invariant-stretches : goal.invariant-stretches
invariant-stretches l = (j : ℕ) → j < l.n → 65536 * get_or l.totals j 0 ≤ l.scale.factor * l.scale.factor * sum_by (difference_at l.sample l.self.side l.fn.from j) (take l.done l.self.blocks.items)

abbrev pub decreases-stretches : goal.decreases-stretches
decreases-stretches l = length l.blocks - l.done
