use Rattle.std.proofs.lemmas.Grind.{common_steps}
use Rattle.std.proofs.Common.{◌*◌, get_or, ap, ◌∙◌, arith}
use Rattle.std.specs.Prelude.{min}
use Rattle.loop_walk.specs.Products.{near_row_sum}
use Rattle.loop_walk.specs.declared.product.TheConstants.{FAR}
use Rattle.loop_walk.proofs.ProductLaws.{least-more_two}
use Rattle.loop_walk.proofs.product.fill_row.Goals as goal

pub loop-h-preserved : goal.loop-h-preserved
loop-h-preserved c = record {
  least = λ j lt.
      least-more_two FAR c.args.n c.loop-h.h (get_or c.loop-h.sums j 0) (get_or c.lower_through.new.sums j 0) (near_row_sum c.args.n c.args.firsts.now c.args.nears.now j)
      (omega arith) (c.loop-h.invariant.least j lt) (c.lower_through.ensures.lowered j lt ∙ ap (λ w. min (get_or c.loop-h.sums j 0) (min (near_row_sum c.args.n c.args.firsts.now c.args.nears.now j (2 * c.loop-h.h)) (near_row_sum c.args.n c.args.firsts.now c.args.nears.now j w))) c.min.ensures);
  near = c.lower_through.ensures.near;
}

pub loop-h-init : goal.loop-h-init
loop-h-init c = grind (arith, common_steps)

pub returns : goal.returns
returns c = grind (arith, common_steps)

pub lower_through-requires-clause-near_nears : goal.lower_through-requires-clause-near_nears
lower_through-requires-clause-near_nears c = grind (arith, common_steps)

pub lower_through-requires-clause-near : goal.lower_through-requires-clause-near
lower_through-requires-clause-near c = grind (arith, common_steps)

pub lower_through-requires-clause-firsts : goal.lower_through-requires-clause-firsts
lower_through-requires-clause-firsts c = grind (arith, common_steps)
