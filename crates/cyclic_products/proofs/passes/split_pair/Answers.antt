use Rattle.std.proofs.Common.{◌+◌, ◌*◌, arith}
use Rattle.cyclic_products.specs.declared.residues.TheConstants.{LAST}
use Rattle.cyclic_products.specs.Residues.{IsCongruent}
use Rattle.cyclic_products.proofs.SameNumbers.{same_equal, same_mod, same_plus, same_refl, same_reduced, same_sym, same_times, same_trans}
use Rattle.cyclic_products.proofs.passes.split_pair.Goals as goal

pub returns-clause-sum : goal.returns-clause-sum
returns-clause-sum c =
    let a = c.args.a in
    let x = c.args.x in
    let y = c.args.y in
    let product : IsCongruent LAST c.reduced-product.result (a * y) = same_reduced LAST _ _ _ c.reduced-product.ensures c.times.ensures in
    let sum : IsCongruent LAST c.plus.result (x + c.reduced-product.result) = record { same = c.plus.ensures } in
    same_trans LAST _ _ _ sum
    (same_trans LAST _ _ _ (same_plus LAST _ _ _ _ (same_refl LAST x) product)
    (same_trans LAST _ _ _ (same_equal LAST (x + a * y) (1 * x + a * y) (omega arith)) (same_sym LAST _ _ (same_mod LAST (1 * x + a * y)))))

pub returns-clause-difference : goal.returns-clause-difference
returns-clause-difference c =
    let a = c.args.a in
    let x = c.args.x in
    let y = c.args.y in
    let product : IsCongruent LAST c.reduced-product.result (a * y) = same_reduced LAST _ _ _ c.reduced-product.ensures c.times.ensures in
    let difference : IsCongruent LAST c.minus.result (x + LAST * c.reduced-product.result) = record { same = c.minus.ensures } in
    same_trans LAST _ _ _ difference
    (same_trans LAST _ _ _ (same_plus LAST _ _ _ _ (same_refl LAST x) (same_times LAST _ _ _ _ (same_refl LAST LAST) product))
    (same_trans LAST _ _ _ (same_equal LAST (x + LAST * (a * y)) (1 * x + (LAST * a) * y) (omega arith)) (same_sym LAST _ _ (same_mod LAST (1 * x + (LAST * a) * y)))))
