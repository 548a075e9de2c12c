use Rattle.std.proofs.Common.{◌≡◌, ◌≤◌, ◌<◌, ℕ, ◌+◌, get_or}
use Rattle.cost_windows.specs.Slides.{number_if}
use Rattle.cost_windows.proofs.reach.put_row.Given as goal

abbrev pub invariant-loop-k : goal.invariant-loop-k
invariant-loop-k l = record {
  put : (i : ℕ) → i < l.k → get_or l.sums i 0 ≡ number_if l.keep (get_or l.fn.sums i 0) + get_or l.more i 0;
  same : (i : ℕ) → l.k ≤ i → get_or l.sums i 0 ≡ get_or l.fn.sums i 0;
}
