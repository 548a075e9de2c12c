use Rattle.std.proofs.Common.{ℕ, ◌<◌, ◌≤◌, get_or}
use Rattle.loop_walk.specs.declared.rests.TheConstants.{GREATEST_BASE}
use Rattle.loop_walk.proofs.rests.base_of.Given as goal

abbrev pub invariant-loop-k : goal.invariant-loop-k
invariant-loop-k l = record {
  below : (u : ℕ) → u < l.k → l.base ≤ get_or l.numbers u 0;
  small : l.base ≤ GREATEST_BASE;
}
