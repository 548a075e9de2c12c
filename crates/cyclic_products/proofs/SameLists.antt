-- Lists that are the same modulo q + 1, and what keeps them so.
use Rattle.std.proofs.Common.{ℕ, zero, suc, ◌+◌, ◌*◌, ◌^◌, List, [], ◌∷◌, take, drop}
use Rattle.cyclic_products.specs.Residues.{AreCongruent, IsCongruent, mix, zip_with}
use Rattle.cyclic_products.specs.Splits.{AreImages, Tables, at, split_by}
use Rattle.cyclic_products.proofs.SameNumbers.{same_mixed, same_mod, same_sym, same_trans}
use Rattle.cyclic_products.proofs.Lists.{all_zip_append, all_zip_compose}

pub lists_trans : (q : ℕ) (xs ys zs : List ℕ) → AreCongruent q xs ys → AreCongruent q ys zs → AreCongruent q xs zs
lists_trans q xs ys zs p r = all_zip_compose (IsCongruent q) (IsCongruent q) (IsCongruent q) xs ys zs (λ a b x e f. same_trans q a b x e f) p r

pub same_mix : (q a b : ℕ) (xs ys us vs : List ℕ) → AreCongruent q xs us → AreCongruent q ys vs → AreCongruent q (mix q a b xs ys) (mix q a b us vs)
unfolding zip_with
same_mix q a b [] ys [] vs p r = tt
same_mix q a b [] ys (u ∷ us) vs p r = absurd p
same_mix q a b (x ∷ xs) ys [] vs p r = absurd p
same_mix q a b (x ∷ xs) [] (u ∷ us) [] p r = tt
same_mix q a b (x ∷ xs) [] (u ∷ us) (v ∷ vs) p r = absurd r
same_mix q a b (x ∷ xs) (y ∷ ys) (u ∷ us) [] p r = absurd r
same_mix q a b (x ∷ xs) (y ∷ ys) (u ∷ us) (v ∷ vs) p r =
    (same_trans q _ _ _ (same_mixed q a b x y u v p.0 r.0) (same_sym q _ _ (same_mod q (a * u + b * v))), same_mix q a b xs ys us vs p.1 r.1)

same_take : (q n : ℕ) (xs ys : List ℕ) → AreCongruent q xs ys → AreCongruent q (take n xs) (take n ys)
same_take q zero xs ys p = tt
same_take q (suc n) [] [] p = tt
same_take q (suc n) [] (y ∷ ys) p = absurd p
same_take q (suc n) (x ∷ xs) [] p = absurd p
same_take q (suc n) (x ∷ xs) (y ∷ ys) p = (p.0, same_take q n xs ys p.1)

same_drop : (q n : ℕ) (xs ys : List ℕ) → AreCongruent q xs ys → AreCongruent q (drop n xs) (drop n ys)
same_drop q zero xs ys p = p
same_drop q (suc n) [] [] p = tt
same_drop q (suc n) [] (y ∷ ys) p = absurd p
same_drop q (suc n) (x ∷ xs) [] p = absurd p
same_drop q (suc n) (x ∷ xs) (y ∷ ys) p = same_drop q n xs ys p.1

-- what two lists that are the same are split into
pub same_split : (q : ℕ) (table : List ℕ) (k j : ℕ) (f g : List ℕ) → AreCongruent q f g → AreCongruent q (split_by q table k j f) (split_by q table k j g)
unfolding split_by
same_split q table zero j f g p = p
same_split q table (suc k) j f g p =
    let low = same_take q (2 ^ k) f g p in
    let high = same_drop q (2 ^ k) f g p in
    all_zip_append (IsCongruent q) _ _ _ _
    (same_split q table k (2 * j) _ _ (same_mix q 1 (at table j) _ _ _ _ low high))
    (same_split q table k (2 * j + 1) _ _ (same_mix q 1 (q * at table j) _ _ _ _ low high))

pub same_images : (q : ℕ) (t : Tables) (f images others : List ℕ) → AreCongruent q images others → AreImages q t f others → AreImages q t f images
same_images q t f images others same of_others = record {
  whole = of_others.whole;
  split = lists_trans q _ _ _ same of_others.split;
}
