use Rattle.std.proofs.Common.{ℕ, ◌<◌, ◌≤◌, ◌+◌, ◌*◌, get_or}
use Rattle.loop_walk.specs.declared.rests.TheConstants.{GREATEST_BASE}
use Rattle.loop_walk.proofs.rests.fill_bases.Given as goal

abbrev pub invariant-loop-v : goal.invariant-loop-v
invariant-loop-v l = record {
  small : (u : ℕ) → u < l.v → get_or l.bases u 0 ≤ GREATEST_BASE;
  below : (u j : ℕ) → u < l.v → j < l.n → get_or l.bases u 0 ≤ get_or l.nears (u * l.n + j) 0;
}
