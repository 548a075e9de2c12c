use Rattle.std.proofs.Common.{◌≡◌, ◌-◌, ◌*◌, ◌^◌, ◌≤◌, suc, length, refl, sym, ◌∙◌, ap, subst, arith}
use Rattle.cyclic_products.specs.declared.residues.TheConstants.{HALF, LAST}
use Rattle.std.proofs.Math.Nat.{two-pow-succ}
use Rattle.cyclic_products.specs.declared.tables.TheConstants.{INVERSES, ROOTS}
use Rattle.cyclic_products.specs.Residues.{IsCongruent}
use Rattle.cyclic_products.specs.Splits.{HasHalves, HasSquares, table_of}
use Rattle.cyclic_products.proofs.Ladders.{roots_cancel, roots_climb}
use Rattle.cyclic_products.proofs.Roots.{has_halves, has_squares, length-table_of}
use Rattle.cyclic_products.proofs.transform.Transform.make.Goals as goal

pub invariant_of-result : goal.invariant_of-result
invariant_of-result c =
    let k = c.args.levels - 1 in
    let roots : c.in_ok-roots.roots.items ≡ table_of LAST 1 ROOTS k = c.in_ok-roots.ensures {u = tt} in
    let halves : c.in_ok-halves.halves.items ≡ table_of LAST HALF INVERSES k = c.in_ok-halves.ensures {u = tt} in
    let root_count : length c.in_ok-roots.roots.items ≡ 2 ^ k = ap length roots ∙ length-table_of LAST 1 ROOTS k in
    let half_count : length c.in_ok-halves.halves.items ≡ 2 ^ k = ap length halves ∙ length-table_of LAST HALF INVERSES k in
    let more : c.args.levels ≡ suc k = omega (arith, c.requires.some) in
    let power : 2 ^ c.args.levels ≡ 2 ^ suc k = ap (λ n. 2 ^ n) more in
    let size : length ROOTS ≡ 25 = refl in
    let fits : k ≤ length ROOTS = omega (arith, c.requires.few, size) in
    let halved : IsCongruent LAST (2 * HALF) 1 = record { same = refl } in
    record {
      some = c.requires.some;
      whole = omega (arith, root_count, power, two-pow-succ k);
      same = half_count ∙ sym root_count;
      squares = subst (HasSquares LAST) (sym roots) (has_squares LAST ROOTS roots_climb k fits);
      inverses =
          subst (λ t. HasHalves LAST t c.in_ok-halves.halves.items) (sym roots)
          (subst (HasHalves LAST (table_of LAST 1 ROOTS k)) (sym halves) (has_halves LAST HALF ROOTS INVERSES halved roots_cancel k fits));
    }
