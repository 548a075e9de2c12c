use Rattle.std.proofs.Common.{◌+◌, ◌*◌, get_or, refl, arith}
use Rattle.cyclic_products.specs.declared.residues.TheConstants.{LAST}
use Rattle.cyclic_products.specs.Residues.{IsCongruent}
use Rattle.cyclic_products.proofs.SameNumbers.{same_equal, same_mod, same_plus, same_reduced, same_refl, same_sym, same_trans}
use Rattle.cyclic_products.proofs.Walks.{walked_all, walked_more}
use Rattle.cyclic_products.proofs.passes.add.Goals as goal

pub pairs-preserved : goal.pairs-preserved
pairs-preserved c =
    let i = c.pairs.i in
    let x = get_or c.pairs.sums i 0 in
    let y = get_or c.args.f.now i 0 in
    let below : IsCongruent LAST c.reduced.result y = same_reduced LAST _ y y c.reduced.ensures refl in
    let sum : IsCongruent LAST c.plus.result (x + c.reduced.result) = record { same = c.plus.ensures } in
    walked_more _ _ _ _ _ _ i _ x y c.pairs.invariant (omega (arith, c.pairs-test.true)) (c.pairs.invariant.rest i (omega arith)) refl
    (same_trans LAST _ _ _ sum
    (same_trans LAST _ _ _ (same_plus LAST _ _ _ _ (same_refl LAST x) below)
    (same_trans LAST _ _ _ (same_equal LAST (x + y) (1 * x + 1 * y) (omega arith)) (same_sym LAST _ _ (same_mod LAST (1 * x + 1 * y))))))

pub returns : goal.returns
returns c =
    walked_all _ _ c.args.sums.now c.args.f.now c.args.sums.now c.pairs.sums c.pairs.i c.pairs.invariant (omega (arith, c.pairs-test.false)) refl c.requires
