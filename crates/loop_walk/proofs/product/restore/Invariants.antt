use Rattle.std.proofs.Common.{◌≡◌, ℕ, ◌<◌, ◌≤◌, get_or}
use Rattle.loop_walk.specs.Products.{IsRestored}
use Rattle.loop_walk.proofs.product.restore.Given as goal

abbrev pub invariant-loop-k : goal.invariant-loop-k
invariant-loop-k l = record {
  restored : (k : ℕ) → k < l.k → IsRestored (get_or l.initial.numbers k 0) (get_or l.numbers k 0);
  same : (k : ℕ) → l.k ≤ k → get_or l.numbers k 0 ≡ get_or l.initial.numbers k 0;
}
