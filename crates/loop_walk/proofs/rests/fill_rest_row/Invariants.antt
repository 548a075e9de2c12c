use Rattle.std.proofs.Common.{ℕ, ◌<◌, ◌*◌, get_or}
use Rattle.std.specs.Prelude.{min}
use Rattle.loop_walk.specs.declared.rests.TheConstants.{GREATEST_REST}
use Rattle.loop_walk.specs.Products.{IsLeastOf}
use Rattle.loop_walk.specs.Rests.{AreSmallRests, rest_sum}
use Rattle.loop_walk.proofs.rests.fill_rest_row.Given as goal

abbrev pub invariant-loop-h : goal.invariant-loop-h
invariant-loop-h l = record {
  least : (j : ℕ) → j < l.n → IsLeastOf GREATEST_REST (min (2 * l.h) l.n) (get_or l.sums j 0) (rest_sum l.n l.firsts l.rests j);
  small : AreSmallRests l.sums;
}
