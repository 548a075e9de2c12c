use Rattle.std.proofs.Common.{◌≡◌, ℕ, ◌<◌, ◌+◌, ◌*◌, get_or}
use Rattle.loop_walk.specs.Rests.{rest_of}
use Rattle.loop_walk.proofs.rests.fill_rest_table.Given as goal

abbrev pub invariant-loop-v : goal.invariant-loop-v
invariant-loop-v l = (u j : ℕ) → u < l.v → j < l.n → get_or l.rests (u * l.n + j) 0 ≡ rest_of (get_or l.bases u 0) (get_or l.nears (u * l.n + j) 0)
