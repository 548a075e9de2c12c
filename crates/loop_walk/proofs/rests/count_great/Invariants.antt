use Rattle.std.proofs.Common.{◌≤◌}
use Rattle.loop_walk.proofs.rests.count_great.Given as goal

abbrev pub invariant-loop-k : goal.invariant-loop-k
invariant-loop-k l = l.count ≤ l.k
