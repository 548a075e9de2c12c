use Rattle.std.proofs.Common.{◌≡◌, ◌≤◌, ◌<◌, ℕ, ◌+◌, ◌*◌, ◌-◌, length, get_or}
use Rattle.limits.specs.declared.bounds.TheConstants.{MOST_CELLS}
use Rattle.cost_windows.specs.Slides.{most_after_two}
use Rattle.cost_windows.proofs.slide.add_after.Given as goal

abbrev pub invariant-entries : goal.invariant-entries
invariant-entries l = record {
  room : l.j ≤ length l.buffer - l.step;
  sums : (k : ℕ) → l.j ≤ k → get_or l.buffer k 0 ≡ get_or l.fn.buffer k 0 + get_or l.buffer (k + l.step) 0;
  same : (k : ℕ) → k < l.j → get_or l.buffer k 0 ≡ get_or l.fn.buffer k 0;
  fits : (k : ℕ) → l.j ≤ k → k < length l.buffer → get_or l.buffer k 0 + most_after_two * k ≤ most_after_two * MOST_CELLS;
}

abbrev pub decreases-entries : goal.decreases-entries
decreases-entries l = l.j
