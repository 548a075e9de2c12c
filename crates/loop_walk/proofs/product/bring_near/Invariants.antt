use Rattle.std.proofs.Common.{◌≡◌, ℕ, ◌<◌, get_or}
use Rattle.loop_walk.specs.Products.{brought_near}
use Rattle.loop_walk.proofs.product.bring_near.Given as goal

abbrev pub invariant-loop-k : goal.invariant-loop-k
invariant-loop-k l = (k : ℕ) → k < l.k → get_or l.nears k 0 ≡ brought_near (get_or l.numbers k 0)
