-- Both levels of four numbers at once.
use Rattle.std.proofs.Common.{◌≡◌, ℕ, ◌+◌, ◌*◌, List, [], ◌∷◌, length, get_or, set, arith}
use Rattle.cyclic_products.specs.Residues.{AreCongruent, IsCongruent, mixed, zip_with}
use Rattle.cyclic_products.specs.Splits.{at, join_by, split_by}
use Rattle.cyclic_products.proofs.SameNumbers.{same_mixed, same_mod, same_sym, same_trans}

-- an operation on numbers that are the same
on_same : (q s t u x y v w : ℕ) → IsCongruent q u (mixed q s t x y) → IsCongruent q x v → IsCongruent q y w → IsCongruent q u (mixed q s t v w)
on_same q s t u x y v w is first second =
    same_trans q _ _ _ is (same_trans q _ _ _ (same_mixed q s t x y v w first second) (same_sym q _ _ (same_mod q (s * v + t * w))))

pub split_four_is : (q : ℕ) (table : List ℕ) (j : ℕ) (f : List ℕ) (a b c d w x y z : ℕ) → length f ≡ 4
    → IsCongruent q a (mixed q 1 (at table j) (get_or f 0 0) (get_or f 2 0)) → IsCongruent q c (mixed q 1 (q * at table j) (get_or f 0 0) (get_or f 2 0))
    → IsCongruent q b (mixed q 1 (at table j) (get_or f 1 0) (get_or f 3 0)) → IsCongruent q d (mixed q 1 (q * at table j) (get_or f 1 0) (get_or f 3 0))
    → IsCongruent q w (mixed q 1 (at table (2 * j)) a b) → IsCongruent q x (mixed q 1 (q * at table (2 * j)) a b)
    → IsCongruent q y (mixed q 1 (at table (2 * j + 1)) c d) → IsCongruent q z (mixed q 1 (q * at table (2 * j + 1)) c d)
    → AreCongruent q (set (set (set (set f 0 w) 1 x) 2 y) 3 z) (split_by q table 2 j f)
unfolding split_by zip_with
split_four_is q table j [] a b c d w x y z whole a_is c_is b_is d_is w_is x_is y_is z_is = absurd (omega (arith, whole))
split_four_is q table j (k ∷ []) a b c d w x y z whole a_is c_is b_is d_is w_is x_is y_is z_is = absurd (omega (arith, whole))
split_four_is q table j (k ∷ l ∷ []) a b c d w x y z whole a_is c_is b_is d_is w_is x_is y_is z_is = absurd (omega (arith, whole))
split_four_is q table j (k ∷ l ∷ m ∷ []) a b c d w x y z whole a_is c_is b_is d_is w_is x_is y_is z_is = absurd (omega (arith, whole))
split_four_is q table j (k ∷ l ∷ m ∷ n ∷ o ∷ f) a b c d w x y z whole a_is c_is b_is d_is w_is x_is y_is z_is = absurd (omega (arith, whole))
split_four_is q table j (k ∷ l ∷ m ∷ n ∷ []) a b c d w x y z whole a_is c_is b_is d_is w_is x_is y_is z_is =
    (on_same q _ _ _ _ _ _ _ w_is a_is b_is, (on_same q _ _ _ _ _ _ _ x_is a_is b_is, (on_same q _ _ _ _ _ _ _ y_is c_is d_is, (on_same q _ _ _ _ _ _ _ z_is c_is d_is, tt))))

pub join_four_is : (q half : ℕ) (halves : List ℕ) (j : ℕ) (f : List ℕ) (a b c d w x y z : ℕ) → length f ≡ 4
    → IsCongruent q a (mixed q half half (get_or f 0 0) (get_or f 1 0)) → IsCongruent q b (mixed q (at halves (2 * j)) (q * at halves (2 * j)) (get_or f 0 0) (get_or f 1 0))
    → IsCongruent q c (mixed q half half (get_or f 2 0) (get_or f 3 0)) → IsCongruent q d (mixed q (at halves (2 * j + 1)) (q * at halves (2 * j + 1)) (get_or f 2 0) (get_or f 3 0))
    → IsCongruent q w (mixed q half half a c) → IsCongruent q y (mixed q (at halves j) (q * at halves j) a c)
    → IsCongruent q x (mixed q half half b d) → IsCongruent q z (mixed q (at halves j) (q * at halves j) b d)
    → AreCongruent q (set (set (set (set f 0 w) 1 x) 2 y) 3 z) (join_by q half halves 2 j f)
unfolding join_by zip_with
join_four_is q half halves j [] a b c d w x y z whole a_is b_is c_is d_is w_is y_is x_is z_is = absurd (omega (arith, whole))
join_four_is q half halves j (k ∷ []) a b c d w x y z whole a_is b_is c_is d_is w_is y_is x_is z_is = absurd (omega (arith, whole))
join_four_is q half halves j (k ∷ l ∷ []) a b c d w x y z whole a_is b_is c_is d_is w_is y_is x_is z_is = absurd (omega (arith, whole))
join_four_is q half halves j (k ∷ l ∷ m ∷ []) a b c d w x y z whole a_is b_is c_is d_is w_is y_is x_is z_is = absurd (omega (arith, whole))
join_four_is q half halves j (k ∷ l ∷ m ∷ n ∷ o ∷ f) a b c d w x y z whole a_is b_is c_is d_is w_is y_is x_is z_is = absurd (omega (arith, whole))
join_four_is q half halves j (k ∷ l ∷ m ∷ n ∷ []) a b c d w x y z whole a_is b_is c_is d_is w_is y_is x_is z_is =
    (on_same q _ _ _ _ _ _ _ w_is a_is c_is, (on_same q _ _ _ _ _ _ _ x_is b_is d_is, (on_same q _ _ _ _ _ _ _ y_is a_is c_is, (on_same q _ _ _ _ _ _ _ z_is b_is d_is, tt))))
