use Rattle.std.proofs.Common.{◌≡◌, ℕ, ◌<◌, ◌+◌, get_or}
use Rattle.loop_walk.specs.Products.{brought_near}
use Rattle.loop_walk.proofs.rests.raise.Given as goal

abbrev pub invariant-loop-v : goal.invariant-loop-v
invariant-loop-v l = (u : ℕ) → u < l.v → get_or l.raised u 0 ≡ brought_near (get_or l.firsts u 0) + get_or l.bases u 0
