use Rattle.std.proofs.Common.{◌≡◌, ℕ, ◌<◌, get_or}
use Rattle.loop_walk.specs.Rests.{rest_of}
use Rattle.loop_walk.proofs.rests.fill_rests.Given as goal

abbrev pub invariant-loop-k : goal.invariant-loop-k
invariant-loop-k l = (u : ℕ) → u < l.k → get_or l.rests u 0 ≡ rest_of l.base (get_or l.numbers u 0)
