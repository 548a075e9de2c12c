use Rattle.std.proofs.Common.{ℕ, ◌+◌, ◌*◌, ◌<◌, ◌≤◌, get_or}
use Rattle.loop_walk.proofs.record.first_frame.Given as goal

abbrev pub invariant-loop-i : goal.invariant-loop-i
invariant-loop-i l = record {
  below : l.first < l.i;
  least : (k : ℕ) → k < l.i → get_or l.table (l.first * l.n + l.first) 0 ≤ get_or l.table (k * l.n + k) 0;
  first : (k : ℕ) → k < l.first → get_or l.table (l.first * l.n + l.first) 0 < get_or l.table (k * l.n + k) 0;
}
