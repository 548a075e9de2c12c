use Rattle.std.proofs.Common.{◌*◌, get_or, refl, sym, ◌∙◌, arith}
use Rattle.std.proofs.Math.Nat.{mod-mod}
use Rattle.cyclic_products.specs.declared.residues.TheConstants.{PRIME}
use Rattle.cyclic_products.proofs.Walks.{walked_all, walked_more}
use Rattle.cyclic_products.proofs.passes.multiply.Goals as goal

pub pairs-preserved : goal.pairs-preserved
pairs-preserved c =
    let i = c.pairs.i in
    let x = get_or c.pairs.f i 0 in
    let y = get_or c.args.g.now i 0 in
    walked_more _ _ _ _ _ _ i _ x y c.pairs.invariant (omega (arith, c.pairs-test.true)) (c.pairs.invariant.rest i (omega arith)) refl
    (record { same = c.times.ensures ∙ sym (mod-mod (x * y) PRIME) })

pub returns : goal.returns
returns c =
    walked_all _ _ c.args.f.now c.args.g.now c.args.f.now c.pairs.f c.pairs.i c.pairs.invariant (omega (arith, c.pairs-test.false)) refl c.requires
