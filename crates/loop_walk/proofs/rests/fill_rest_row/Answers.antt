use Rattle.std.proofs.lemmas.Grind.{common_steps}
use Rattle.std.proofs.Common.{◌*◌, get_or, ap, ◌∙◌, arith}
use Rattle.std.specs.Prelude.{min}
use Rattle.loop_walk.specs.Rests.{rest_sum}
use Rattle.loop_walk.specs.declared.rests.TheConstants.{GREATEST_REST}
use Rattle.loop_walk.proofs.ProductLaws.{least-more_two}
use Rattle.loop_walk.proofs.rests.fill_rest_row.Goals as goal

pub loop-h-preserved : goal.loop-h-preserved
loop-h-preserved c = record {
  least = λ j lt.
      least-more_two GREATEST_REST c.args.n c.loop-h.h (get_or c.loop-h.sums j 0) (get_or c.lower_rests_through.new.sums j 0) (rest_sum c.args.n c.args.firsts.now c.args.rests.now j)
      (omega arith) (c.loop-h.invariant.least j lt) (c.lower_rests_through.ensures.lowered j lt ∙ ap (λ w. min (get_or c.loop-h.sums j 0) (min (rest_sum c.args.n c.args.firsts.now c.args.rests.now j (2 * c.loop-h.h)) (rest_sum c.args.n c.args.firsts.now c.args.rests.now j w))) c.min.ensures);
  small = c.lower_rests_through.ensures.small;
}

pub loop-h-init : goal.loop-h-init
loop-h-init c = grind (arith, common_steps)

pub returns : goal.returns
returns c = grind (arith, common_steps)

pub lower_rests_through-requires-clause-small_rests : goal.lower_rests_through-requires-clause-small_rests
lower_rests_through-requires-clause-small_rests c = grind (arith, common_steps)

pub lower_rests_through-requires-clause-small_firsts : goal.lower_rests_through-requires-clause-small_firsts
lower_rests_through-requires-clause-small_firsts c = grind (arith, common_steps)

pub lower_rests_through-requires-clause-small : goal.lower_rests_through-requires-clause-small
lower_rests_through-requires-clause-small c = grind (arith, common_steps)

pub lower_rests_through-requires-clause-firsts : goal.lower_rests_through-requires-clause-firsts
lower_rests_through-requires-clause-firsts c = grind (arith, common_steps)
