use Rattle.std.proofs.Common.{ℕ, ◌<◌, ◌+◌, ◌*◌, get_or}
use Rattle.loop_walk.specs.declared.product.TheConstants.{FAR}
use Rattle.loop_walk.specs.Products.{IsLeastOf, near_sum_through}
use Rattle.loop_walk.proofs.product.fill_near.Given as goal

abbrev pub invariant-loop-i : goal.invariant-loop-i
invariant-loop-i l = (row j : ℕ) → row < l.i → j < l.n → IsLeastOf FAR l.n (get_or l.made (row * l.n + j) 0) (near_sum_through l.n l.left l.nears row j)
