use Rattle.std.proofs.Common.{◌≡◌, ◌≤◌, ◌<◌, ℕ, ◌+◌, get_or}
use Rattle.cost_windows.proofs.slide.take_after.Given as goal

abbrev pub invariant-loop-j : goal.invariant-loop-j
invariant-loop-j l = record {
  taken : (k : ℕ) → k < l.j → get_or l.buffer k 0 + get_or l.fn.buffer (k + l.distance) 0 ≡ get_or l.fn.buffer k 0;
  same : (k : ℕ) → l.j ≤ k → get_or l.buffer k 0 ≡ get_or l.fn.buffer k 0;
}
