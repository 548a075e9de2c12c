use Rattle.std.proofs.Common.{arith}
use Rattle.cyclic_products.proofs.Lists.{map_by_index}
use Rattle.cyclic_products.proofs.Walks.{walked_more}
use Rattle.cyclic_products.proofs.passes.reduce.Goals as goal

pub numbers-preserved : goal.numbers-preserved
numbers-preserved c =
    let i = c.numbers.i in
    let was = c.numbers.invariant.rest i (omega arith) in
    walked_more _ _ _ _ _ _ i _ _ _ c.numbers.invariant (omega (arith, c.numbers-test.true)) was was c.reduced.ensures

pub returns : goal.returns
returns c =
    map_by_index _ c.args.values.now c.numbers.values c.numbers.invariant.size (λ k below. c.numbers.invariant.done k (omega (arith, below, c.numbers-test.false)))
