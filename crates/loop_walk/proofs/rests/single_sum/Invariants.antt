use Rattle.loop_walk.specs.declared.product.TheConstants.{FAR}
use Rattle.loop_walk.specs.Products.{IsLeastOf, near_row_sum}
use Rattle.loop_walk.proofs.rests.single_sum.Given as goal

abbrev pub invariant-loop-v : goal.invariant-loop-v
invariant-loop-v l = IsLeastOf FAR l.v l.sum (near_row_sum l.n l.firsts l.nears l.j)
