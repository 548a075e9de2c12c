use Rattle.std.proofs.Common.{◌+◌, ◌*◌, arith, refl}
use Rattle.cyclic_products.specs.declared.residues.TheConstants.{HALF, LAST}
use Rattle.cyclic_products.specs.Residues.{IsCongruent}
use Rattle.cyclic_products.proofs.SameNumbers.{same_equal, same_mod, same_plus, same_reduced, same_refl, same_sym, same_times, same_trans}
use Rattle.cyclic_products.proofs.passes.join_pair.Goals as goal

pub returns-clause-sum : goal.returns-clause-sum
returns-clause-sum c =
    let x = c.args.x in
    let y = c.args.y in
    let below : IsCongruent LAST c.reduced-below.result y = same_reduced LAST _ y y c.reduced-below.ensures refl in
    let sum : IsCongruent LAST c.plus.result (x + c.reduced-below.result) = record { same = c.plus.ensures } in
    let whole : IsCongruent LAST c.plus.result (x + y) = same_trans LAST _ _ _ sum (same_plus LAST _ _ _ _ (same_refl LAST x) below) in
    let halved : IsCongruent LAST c.half.result (HALF * c.plus.result) = record { same = c.half.ensures } in
    same_trans LAST _ _ _ halved
    (same_trans LAST _ _ _ (same_times LAST _ _ _ _ (same_refl LAST HALF) whole)
    (same_trans LAST _ _ _ (same_equal LAST (HALF * (x + y)) (HALF * x + HALF * y) (omega arith)) (same_sym LAST _ _ (same_mod LAST (HALF * x + HALF * y)))))

pub returns-clause-difference : goal.returns-clause-difference
returns-clause-difference c =
    let b = c.args.b in
    let x = c.args.x in
    let y = c.args.y in
    let below : IsCongruent LAST c.reduced-below.result y = same_reduced LAST _ y y c.reduced-below.ensures refl in
    let difference : IsCongruent LAST c.minus.result (x + LAST * c.reduced-below.result) = record { same = c.minus.ensures } in
    let whole : IsCongruent LAST c.minus.result (x + LAST * y) =
    same_trans LAST _ _ _ difference (same_plus LAST _ _ _ _ (same_refl LAST x) (same_times LAST _ _ _ _ (same_refl LAST LAST) below)) in
    let product : IsCongruent LAST c.times.result (b * c.minus.result) = record { same = c.times.ensures } in
    same_trans LAST _ _ _ product
    (same_trans LAST _ _ _ (same_times LAST _ _ _ _ (same_refl LAST b) whole)
    (same_trans LAST _ _ _ (same_equal LAST (b * (x + LAST * y)) (b * x + (LAST * b) * y) (omega arith)) (same_sym LAST _ _ (same_mod LAST (b * x + (LAST * b) * y)))))
