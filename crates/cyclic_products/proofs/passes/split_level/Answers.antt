use Rattle.std.proofs.Common.{refl, sym, arith}
use Rattle.cyclic_products.proofs.Walks.{walked_all, walked_more}
use Rattle.cyclic_products.proofs.passes.split_level.Goals as goal

pub pairs-preserved : goal.pairs-preserved
pairs-preserved c =
    let low = c.pairs.invariant.low in
    let high = c.pairs.invariant.high in
    let i = c.pairs.i in
    record {
      low = walked_more _ _ _ _ _ _ i _ _ _ low (omega (arith, c.pairs-test.true)) (low.rest i (omega arith)) (high.rest i (omega arith)) c.split_pair-sum.ensures.sum;
      high = walked_more _ _ _ _ _ _ i _ _ _ high (omega (arith, c.pairs-test.true, c.requires)) (low.rest i (omega arith)) (high.rest i (omega arith)) c.split_pair-sum.ensures.difference;
    }

pub returns-clause-sum : goal.returns-clause-sum
returns-clause-sum c =
    walked_all _ _ c.args.low.now c.args.high.now c.args.low.now c.pairs.low c.pairs.i c.pairs.invariant.low (omega (arith, c.pairs-test.false)) refl (sym c.requires)

pub returns-clause-difference : goal.returns-clause-difference
returns-clause-difference c =
    walked_all _ _ c.args.low.now c.args.high.now c.args.high.now c.pairs.high c.pairs.i c.pairs.invariant.high (omega (arith, c.pairs-test.false, c.requires)) c.requires refl

pub bounds-high-i-in-pairs : goal.bounds-high-i-in-pairs
bounds-high-i-in-pairs c = omega arith
