use Rattle.std.proofs.Common.{ℕ, ◌<◌, get_or}
use Rattle.loop_walk.specs.declared.product.TheConstants.{FAR}
use Rattle.loop_walk.specs.Products.{IsLeastOf, near_row_sum}
use Rattle.loop_walk.proofs.rests.fill_sums.Given as goal

abbrev pub invariant-loop-j : goal.invariant-loop-j
invariant-loop-j l = (k : ℕ) → k < l.j → IsLeastOf FAR l.n (get_or l.sums k 0) (near_row_sum l.n l.firsts l.nears k)
