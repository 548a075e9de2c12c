use Rattle.std.proofs.Common.{◌≡◌, ◌+◌, ◌-◌, ◌*◌, ◌^◌, ◌≤◌, ◌/◌, ◌++◌, suc, length, take, drop, sym, ◌∙◌, ap, subst, arith}
use Rattle.cyclic_products.specs.declared.residues.TheConstants.{LAST}
use Rattle.cyclic_products.specs.Residues.{AreCongruent, IsCongruent, mix}
use Rattle.cyclic_products.specs.Splits.{at, split_by}
use Rattle.cyclic_products.proofs.Halvings.{half_length, here_below, left_room, rest_length, right_room, split_one}
use Rattle.cyclic_products.proofs.Lists.{all_zip_append, are_same}
use Rattle.cyclic_products.proofs.SameLists.{lists_trans, same_split}
use Rattle.cyclic_products.proofs.splits.+split.Goals as goal

pub split_four-requires : goal.split_four-requires
split_four-requires t c =
    let four : 2 ^ c.args.levels ≡ 2 ^ 2 = ap (λ n. 2 ^ n) c.if-levels-eq2.true in
    record {
      whole = c.requires.whole ∙ four;
      table = subst (λ n. (c.args.j + 1) * n ≤ 2 * length c.args.table.now) four c.requires.table;
    }

pub returns-then-levels-eq2 : goal.returns-then-levels-eq2
returns-then-levels-eq2 t c =
    subst (λ k. AreCongruent LAST c.split_four.new.values (split_by LAST c.args.table.now k c.args.j c.args.values.now)) (sym c.if-levels-eq2.true) c.split_four.ensures

pub returns-then-levels-eq0 : goal.returns-then-levels-eq0
unfolding split_by
returns-then-levels-eq0 t c =
    are_same LAST _ _ (ap (λ k. split_by LAST c.args.table.now k c.args.j c.args.values.now) (sym c.if-levels-eq0.true))

pub bounds-table-j : goal.bounds-table-j
bounds-table-j t c =
    let k = c.args.levels - 1 in
    let more : c.args.levels ≡ suc k = omega (arith, c.if-levels-eq0.false) in
    here_below c.args.levels k c.args.j (length c.args.table.now) more c.requires.table

pub split_level-requires : goal.split_level-requires
split_level-requires t c =
    let k = c.args.levels - 1 in
    let n = length c.args.values.now in
    let more : c.args.levels ≡ suc k = omega (arith, c.if-levels-eq0.false) in
    let parts = c.split_at_mut-low.ensures in
    parts.front_len ∙ half_length c.args.levels k n more c.requires.whole ∙ sym (rest_length c.args.levels k n (length c.split_at_mut-low.result.1.now) more c.requires.whole parts.back_len)

pub split-requires : goal.split-requires
split-requires t c =
    let k = c.args.levels - 1 in
    let n = length c.args.values.now in
    let more : c.args.levels ≡ suc k = omega (arith, c.if-levels-eq0.false) in
    let parts = c.split_at_mut-low.ensures in
    let low : length c.split_at_mut-low.result.0.now ≡ 2 ^ k = parts.front_len ∙ half_length c.args.levels k n more c.requires.whole in
    let size : length c.split_level.new.low ≡ 2 ^ k = c.split_level.auto.low ∙ low in
    (omega (arith, c.decreases, more), (size, left_room c.args.levels k c.args.j (length c.args.table.now) more c.requires.table))

pub split-requires-2 : goal.split-requires-2
split-requires-2 t c =
    let k = c.args.levels - 1 in
    let n = length c.args.values.now in
    let more : c.args.levels ≡ suc k = omega (arith, c.if-levels-eq0.false) in
    let parts = c.split_at_mut-low.ensures in
    let high : length c.split_at_mut-low.result.1.now ≡ 2 ^ k = rest_length c.args.levels k n (length c.split_at_mut-low.result.1.now) more c.requires.whole parts.back_len in
    let size : length c.split_level.new.high ≡ 2 ^ k = c.split_level.auto.high ∙ high in
    (omega (arith, c.decreases, more), (size, right_room c.args.levels k c.args.j (length c.args.table.now) more c.requires.table))

pub returns : goal.returns
returns t c =
    let k = c.args.levels - 1 in
    let table = c.args.table.now in
    let j = c.args.j in
    let f = c.args.values.now in
    let more : c.args.levels ≡ suc k = omega (arith, c.if-levels-eq0.false) in
    let half : length f / 2 ≡ 2 ^ k = half_length c.args.levels k (length f) more c.requires.whole in
    let parts = c.split_at_mut-low.ensures in
    let low = c.split_at_mut-low.result.0.now in
    let high = c.split_at_mut-low.result.1.now in
    let left : AreCongruent LAST c.split.new.values (split_by LAST table k (2 * j) (mix LAST 1 (at table j) low high)) =
    lists_trans LAST _ _ _ c.split.ensures (same_split LAST table k (2 * j) _ _ c.split_level.ensures.sum) in
    let right : AreCongruent LAST c.split-2.new.values (split_by LAST table k (2 * j + 1) (mix LAST 1 (LAST * at table j) low high)) =
    lists_trans LAST _ _ _ c.split-2.ensures (same_split LAST table k (2 * j + 1) _ _ c.split_level.ensures.difference) in
    subst (λ l. AreCongruent LAST (c.split.new.values ++ c.split-2.new.values) l)
    (split_one LAST table c.args.levels k j f low high more (parts.front ∙ ap (λ m. take m f) half) (parts.back ∙ ap (λ m. drop m f) half))
    (all_zip_append (IsCongruent LAST) _ _ _ _ left right)
