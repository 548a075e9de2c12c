use Rattle.std.proofs.Common.{arith}
use Rattle.std.proofs.lemmas.Grind.{common_steps}
use Rattle.std.proofs.Common.{◌+◌, ◌*◌, get_or, ap, ◌∙◌}
use Rattle.std.proofs.lemmas.Nat.{mul-add-lt}
use Rattle.std.specs.Prelude.{min}
use Rattle.loop_walk.specs.declared.product.TheConstants.{FAR}
use Rattle.loop_walk.specs.Products.{near_row_sum}
use Rattle.loop_walk.proofs.ProductLaws.{least-more}
use Rattle.loop_walk.proofs.rests.single_sum.Goals as goal

pub loop-v-preserved : goal.loop-v-preserved
loop-v-preserved c =
    let n = c.args.n in
    let v = c.loop-v.v in
    let j = c.args.j in
    let nears = c.args.nears.now in
    least-more FAR v c.loop-v.sum c.min-sum.result (near_row_sum n c.args.firsts.now nears j) c.loop-v.invariant
    (c.min-sum.ensures ∙ ap (λ k. min c.loop-v.sum (k + get_or nears (v * n + j) 0)) c.min.ensures)

pub returns : goal.returns
returns c = grind (arith, common_steps)

pub loop-v-init : goal.loop-v-init
loop-v-init c = grind (arith, common_steps)

pub bounds-nears-v : goal.bounds-nears-v
bounds-nears-v c = omega (arith, c.requires.nears, mul-add-lt c.loop-v.v c.args.n c.args.j c.args.n c.loop-v-test.true c.requires.column)

pub overflow_add-min : goal.overflow_add-min
overflow_add-min c = grind (arith, common_steps)
