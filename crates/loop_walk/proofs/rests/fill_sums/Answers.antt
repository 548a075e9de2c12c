use Rattle.std.proofs.Common.{arith, ◌<◌, length}
use Rattle.std.proofs.lemmas.Grind.{common_steps}
use Rattle.loop_walk.specs.declared.product.TheConstants.{FAR}
use Rattle.loop_walk.specs.Products.{IsLeastOf, near_row_sum}
use Rattle.loop_walk.proofs.ProductLaws.{set_more}
use Rattle.loop_walk.proofs.rests.fill_sums.Goals as goal

pub loop-j-preserved : goal.loop-j-preserved
loop-j-preserved c =
    let sums = c.loop-j.sums in
    let j = c.loop-j.j in
    let inside : j < length sums = omega (arith, c.loop-j.auto.sums, c.requires.sums, c.loop-j-test.true) in
    set_more (λ k x. IsLeastOf FAR c.args.n x (near_row_sum c.args.n c.args.firsts.now c.args.nears.now k)) sums j c.sum_of.result inside c.loop-j.invariant c.sum_of.ensures

pub sum_of-requires-clause-exact : goal.sum_of-requires-clause-exact
sum_of-requires-clause-exact c = grind (arith, common_steps)

pub loop-j-init : goal.loop-j-init
loop-j-init c = grind (arith, common_steps)

pub sum_of-requires-clause-near : goal.sum_of-requires-clause-near
sum_of-requires-clause-near c = grind (arith, common_steps)
