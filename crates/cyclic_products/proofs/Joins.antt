-- The way back from what a list is split into gives the list.
use Rattle.std.proofs.Common.{◌≡◌, ℕ, ◌+◌, ◌*◌, ◌^◌, ◌≤◌, ◌<◌, zero, suc, List, ◌++◌, length, take, drop, sym, ◌∙◌, subst, arith}
use Rattle.std.proofs.Math.Nat.{two-pow-succ}
use Rattle.std.proofs.lemmas.List.{take-append-drop, length-take-le, length-drop}
use Rattle.cyclic_products.specs.Residues.{AreCongruent, IsCongruent, mix, mixed}
use Rattle.cyclic_products.specs.Splits.{HasHalves, at, join_by, split_by}
use Rattle.cyclic_products.proofs.SameNumbers.{same_by, same_equal, same_mixed, same_mod, same_refl, same_times, same_trans}
use Rattle.cyclic_products.proofs.Lists.{all_zip_append, all_zip_of_both, all_zip_of_second, all_zip_parts, length-zip_with}
use Rattle.cyclic_products.proofs.Images.{length-split_by, room_below, room_here}

-- a half of (x + a * y) + (x - a * y) is x
half_of_sum : (q half a s d x y : ℕ) → IsCongruent q (2 * half) 1 → IsCongruent q s (mixed q 1 a x y) → IsCongruent q d (mixed q 1 (q * a) x y) → IsCongruent q (mixed q half half s d) x
half_of_sum q half a s d x y halved sum difference =
    let s_is : IsCongruent q s (1 * x + a * y) = same_trans q _ _ _ sum (same_mod q _) in
    let d_is : IsCongruent q d (1 * x + (q * a) * y) = same_trans q _ _ _ difference (same_mod q _) in
    let both : IsCongruent q (mixed q half half s d) (half * (1 * x + a * y) + half * (1 * x + (q * a) * y)) = same_mixed q half half s d _ _ s_is d_is in
    let twice : IsCongruent q (half * (1 * x + a * y) + half * (1 * x + (q * a) * y)) ((2 * half) * x) = same_by q _ _ 0 (half * a * y) (omega arith) in
    let one : IsCongruent q ((2 * half) * x) (1 * x) = same_times q _ _ x x halved (same_refl q x) in
    same_trans q _ _ _ both (same_trans q _ _ _ twice (same_trans q _ _ _ one (same_equal q _ _ (omega arith))))

-- (x + a * y) - (x - a * y), times a half of 1 / a, is y
half_of_difference : (q a b s d x y : ℕ) → IsCongruent q (2 * (a * b)) 1 → IsCongruent q s (mixed q 1 a x y) → IsCongruent q d (mixed q 1 (q * a) x y) → IsCongruent q (mixed q b (q * b) s d) y
half_of_difference q a b s d x y inverse sum difference =
    let s_is : IsCongruent q s (1 * x + a * y) = same_trans q _ _ _ sum (same_mod q _) in
    let d_is : IsCongruent q d (1 * x + (q * a) * y) = same_trans q _ _ _ difference (same_mod q _) in
    let both : IsCongruent q (mixed q b (q * b) s d) (b * (1 * x + a * y) + (q * b) * (1 * x + (q * a) * y)) = same_mixed q b (q * b) s d _ _ s_is d_is in
    let twice : IsCongruent q (b * (1 * x + a * y) + (q * b) * (1 * x + (q * a) * y)) ((2 * (a * b)) * y) = same_by q _ _ (b * a * y) (b * x + q * (b * a * y)) (omega arith) in
    let one : IsCongruent q ((2 * (a * b)) * y) (1 * y) = same_times q _ _ y y inverse (same_refl q y) in
    same_trans q _ _ _ both (same_trans q _ _ _ twice (same_trans q _ _ _ one (same_equal q _ _ (omega arith))))

pub joins : (q half : ℕ) (table halves : List ℕ) → IsCongruent q (2 * half) 1 → HasHalves q table halves → (k j : ℕ) (f images : List ℕ) → length f ≡ 2 ^ k → (j + 1) * 2 ^ k ≤ 2 * length table → AreCongruent q images (split_by q table k j f) → AreCongruent q (join_by q half halves k j images) f
unfolding split_by join_by
joins q half table halves halved inverse zero j f images whole room same = same
joins q half table halves halved inverse (suc k) j f images whole room same =
    let a = at table j in
    let low = take (2 ^ k) f in
    let high = drop (2 ^ k) f in
    let twice : 2 ^ suc k ≡ 2 ^ k + 2 ^ k = two-pow-succ k in
    let first : length low ≡ 2 ^ k = length-take-le (2 ^ k) f (omega (arith, twice, whole)) in
    let second : length high ≡ 2 ^ k = omega (arith, length-drop (2 ^ k) f, twice, whole) in
    let equal : length low ≡ length high = first ∙ sym second in
    let both : low ++ high ≡ f = take-append-drop (2 ^ k) f in
    let below = room_below j k (length table) room in
    let here : j < length table = room_here j k (length table) room in
    let sums = mix q 1 a low high in
    let differences = mix q 1 (q * a) low high in
    let sums_length : length sums ≡ 2 ^ k = length-zip_with _ low high equal ∙ first in
    let differences_length : length differences ≡ 2 ^ k = length-zip_with _ low high equal ∙ first in
    let parts = all_zip_parts (IsCongruent q) (2 ^ k) images (split_by q table k (2 * j) sums) (split_by q table k (2 * j + 1) differences) (length-split_by q table k (2 * j) sums sums_length) same in
    let left = joins q half table halves halved inverse k (2 * j) sums (take (2 ^ k) images) sums_length (omega (arith, below)) parts.0 in
    let right = joins q half table halves halved inverse k (2 * j + 1) differences (drop (2 ^ k) images) differences_length below parts.1 in
    let front = all_zip_of_both (IsCongruent q) (IsCongruent q) (IsCongruent q) (mixed q half half) (mixed q 1 a) (mixed q 1 (q * a)) _ _ low high (λ s d x y e g. half_of_sum q half a s d x y halved e g) equal left right in
    let back = all_zip_of_second (IsCongruent q) (IsCongruent q) (IsCongruent q) (mixed q (at halves j) (q * at halves j)) (mixed q 1 a) (mixed q 1 (q * a)) _ _ low high (λ s d x y e g. half_of_difference q a (at halves j) s d x y (inverse.inverse j here) e g) equal left right in
    subst (λ g. AreCongruent q (join_by q half halves (suc k) j images) g) both (all_zip_append (IsCongruent q) _ _ low high front back)
