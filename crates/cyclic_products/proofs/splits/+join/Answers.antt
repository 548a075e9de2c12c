use Rattle.std.proofs.Common.{◌≡◌, ◌+◌, ◌-◌, ◌*◌, ◌^◌, ◌≤◌, ◌/◌, ◌++◌, suc, length, take, drop, refl, sym, ◌∙◌, ap, subst, arith}
use Rattle.cyclic_products.specs.declared.residues.TheConstants.{HALF, LAST}
use Rattle.cyclic_products.specs.Residues.{AreCongruent, IsCongruent, mix}
use Rattle.cyclic_products.specs.Splits.{at, join_by}
use Rattle.cyclic_products.proofs.Halvings.{half_length, here_below, join_one, left_room, rest_length, right_room}
use Rattle.cyclic_products.proofs.Lists.{all_zip_append, are_same}
use Rattle.cyclic_products.proofs.SameLists.{lists_trans, same_mix}
use Rattle.cyclic_products.proofs.splits.+join.Goals as goal

pub join_four-requires : goal.join_four-requires
join_four-requires t c =
    let four : 2 ^ c.args.levels ≡ 2 ^ 2 = ap (λ n. 2 ^ n) c.if-levels-eq2.true in
    record {
      whole = c.requires.whole ∙ four;
      table = subst (λ n. (c.args.j + 1) * n ≤ 2 * length c.args.halves.now) four c.requires.table;
    }

pub returns-then-levels-eq2 : goal.returns-then-levels-eq2
returns-then-levels-eq2 t c =
    subst (λ k. AreCongruent LAST c.join_four.new.values (join_by LAST HALF c.args.halves.now k c.args.j c.args.values.now)) (sym c.if-levels-eq2.true) c.join_four.ensures

pub returns-then-levels-eq0 : goal.returns-then-levels-eq0
unfolding join_by
returns-then-levels-eq0 t c =
    are_same LAST _ _ (ap (λ k. join_by LAST HALF c.args.halves.now k c.args.j c.args.values.now) (sym c.if-levels-eq0.true))

pub join-requires : goal.join-requires
join-requires t c =
    let k = c.args.levels - 1 in
    let n = length c.args.values.now in
    let more : c.args.levels ≡ suc k = omega (arith, c.if-levels-eq0.false) in
    let size : length c.split_at_mut-low.result.0.now ≡ 2 ^ k = c.split_at_mut-low.ensures.front_len ∙ half_length c.args.levels k n more c.requires.whole in
    (omega (arith, c.decreases, more), (size, left_room c.args.levels k c.args.j (length c.args.halves.now) more c.requires.table))

pub join-requires-2 : goal.join-requires-2
join-requires-2 t c =
    let k = c.args.levels - 1 in
    let n = length c.args.values.now in
    let more : c.args.levels ≡ suc k = omega (arith, c.if-levels-eq0.false) in
    let size : length c.split_at_mut-low.result.1.now ≡ 2 ^ k = rest_length c.args.levels k n (length c.split_at_mut-low.result.1.now) more c.requires.whole c.split_at_mut-low.ensures.back_len in
    (omega (arith, c.decreases, more), (size, right_room c.args.levels k c.args.j (length c.args.halves.now) more c.requires.table))

pub bounds-halves-j : goal.bounds-halves-j
bounds-halves-j t c =
    let k = c.args.levels - 1 in
    let more : c.args.levels ≡ suc k = omega (arith, c.if-levels-eq0.false) in
    here_below c.args.levels k c.args.j (length c.args.halves.now) more c.requires.table

pub join_level-requires : goal.join_level-requires
join_level-requires t c =
    let k = c.args.levels - 1 in
    let n = length c.args.values.now in
    let more : c.args.levels ≡ suc k = omega (arith, c.if-levels-eq0.false) in
    let parts = c.split_at_mut-low.ensures in
    c.join.auto.values ∙ parts.front_len ∙ half_length c.args.levels k n more c.requires.whole
    ∙ sym (c.join-2.auto.values ∙ rest_length c.args.levels k n (length c.split_at_mut-low.result.1.now) more c.requires.whole parts.back_len)

pub returns : goal.returns
returns t c =
    let k = c.args.levels - 1 in
    let halves = c.args.halves.now in
    let j = c.args.j in
    let f = c.args.values.now in
    let more : c.args.levels ≡ suc k = omega (arith, c.if-levels-eq0.false) in
    let half : length f / 2 ≡ 2 ^ k = half_length c.args.levels k (length f) more c.requires.whole in
    let parts = c.split_at_mut-low.ensures in
    let first = join_by LAST HALF halves k (2 * j) (take (2 ^ k) f) in
    let second = join_by LAST HALF halves k (2 * j + 1) (drop (2 ^ k) f) in
    let low : AreCongruent LAST c.join.new.values first =
    subst (λ l. AreCongruent LAST c.join.new.values (join_by LAST HALF halves k (2 * j) l)) (parts.front ∙ ap (λ m. take m f) half) c.join.ensures in
    let high : AreCongruent LAST c.join-2.new.values second =
    subst (λ l. AreCongruent LAST c.join-2.new.values (join_by LAST HALF halves k (2 * j + 1) l)) (parts.back ∙ ap (λ m. drop m f) half) c.join-2.ensures in
    let front : AreCongruent LAST c.join_level.new.low (mix LAST HALF HALF first second) =
    lists_trans LAST _ _ _ c.join_level.ensures.sum (same_mix LAST HALF HALF _ _ _ _ low high) in
    let back : AreCongruent LAST c.join_level.new.high (mix LAST (at halves j) (LAST * at halves j) first second) =
    lists_trans LAST _ _ _ c.join_level.ensures.difference (same_mix LAST (at halves j) (LAST * at halves j) _ _ _ _ low high) in
    subst (λ l. AreCongruent LAST (c.join_level.new.low ++ c.join_level.new.high) l)
    (join_one LAST HALF halves c.args.levels k j f first second more refl refl)
    (all_zip_append (IsCongruent LAST) _ _ _ _ front back)
