use Rattle.std.proofs.Common.{ℕ, ◌<◌, ◌*◌, get_or}
use Rattle.std.specs.Prelude.{min}
use Rattle.loop_walk.specs.declared.product.TheConstants.{FAR}
use Rattle.loop_walk.specs.Products.{AreAtMostFar, IsLeastOf, near_row_sum}
use Rattle.loop_walk.proofs.product.fill_row.Given as goal

abbrev pub invariant-loop-h : goal.invariant-loop-h
invariant-loop-h l = record {
  least : (j : ℕ) → j < l.n → IsLeastOf FAR (min (2 * l.h) l.n) (get_or l.sums j 0) (near_row_sum l.n l.firsts l.nears j);
  near : AreAtMostFar l.sums;
}
