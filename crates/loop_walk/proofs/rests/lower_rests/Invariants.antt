use Rattle.std.proofs.Common.{◌≡◌, ℕ, ◌<◌, ◌≤◌, ◌+◌, get_or}
use Rattle.std.specs.Prelude.{min}
use Rattle.loop_walk.specs.Rests.{AreSmallRests}
use Rattle.loop_walk.proofs.rests.lower_rests.Given as goal

abbrev pub invariant-loop-j : goal.invariant-loop-j
invariant-loop-j l = record {
  lowered : (k : ℕ) → k < l.j → get_or l.sums k 0 ≡ min (get_or l.initial.sums k 0) (min (l.first + get_or l.seconds k 0) (l.other + get_or l.others k 0));
  same : (k : ℕ) → l.j ≤ k → get_or l.sums k 0 ≡ get_or l.initial.sums k 0;
  small : AreSmallRests l.sums;
}
