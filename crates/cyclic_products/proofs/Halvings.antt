-- One level down: 2^levels numbers have halves of 2^k, where levels is k + 1.
use Rattle.std.proofs.Common.{◌≡◌, ℕ, ◌+◌, ◌*◌, ◌^◌, ◌/◌, ◌≤◌, ◌<◌, suc, List, ◌++◌, take, drop, sym, ◌∙◌, ap, subst, arith}
use Rattle.std.proofs.Math.Nat.{two-pow-succ}
use Rattle.cyclic_products.specs.Residues.{mix}
use Rattle.cyclic_products.specs.Splits.{at, join_by, split_by}
use Rattle.cyclic_products.proofs.Images.{room_below, room_here}

pub half_length : (levels k n : ℕ) → levels ≡ suc k → n ≡ 2 ^ levels → n / 2 ≡ 2 ^ k
half_length levels k n e whole =
    let power : 2 ^ levels ≡ 2 ^ suc k = ap (λ m. 2 ^ m) e in
    omega (arith, power, two-pow-succ k, whole)

pub rest_length : (levels k n rest : ℕ) → levels ≡ suc k → n ≡ 2 ^ levels → rest + n / 2 ≡ n → rest ≡ 2 ^ k
rest_length levels k n rest e whole both =
    let power : 2 ^ levels ≡ 2 ^ suc k = ap (λ m. 2 ^ m) e in
    omega (arith, power, two-pow-succ k, whole, both, half_length levels k n e whole)

room : (levels k j n : ℕ) → levels ≡ suc k → (j + 1) * 2 ^ levels ≤ 2 * n → (j + 1) * 2 ^ suc k ≤ 2 * n
room levels k j n e given = subst (λ m. (j + 1) * 2 ^ m ≤ 2 * n) e given

pub here_below : (levels k j n : ℕ) → levels ≡ suc k → (j + 1) * 2 ^ levels ≤ 2 * n → j < n
here_below levels k j n e given = room_here j k n (room levels k j n e given)

pub right_room : (levels k j n : ℕ) → levels ≡ suc k → (j + 1) * 2 ^ levels ≤ 2 * n → (2 * j + 1 + 1) * 2 ^ k ≤ 2 * n
right_room levels k j n e given = room_below j k n (room levels k j n e given)

pub left_room : (levels k j n : ℕ) → levels ≡ suc k → (j + 1) * 2 ^ levels ≤ 2 * n → (2 * j + 1) * 2 ^ k ≤ 2 * n
left_room levels k j n e given = omega (arith, right_room levels k j n e given)

pub split_one : (q : ℕ) (table : List ℕ) (levels k j : ℕ) (f low high : List ℕ) → levels ≡ suc k → low ≡ take (2 ^ k) f → high ≡ drop (2 ^ k) f
    → split_by q table k (2 * j) (mix q 1 (at table j) low high) ++ split_by q table k (2 * j + 1) (mix q 1 (q * at table j) low high) ≡ split_by q table levels j f
unfolding split_by
split_one q table levels k j f low high e first second =
    ap (λ l. split_by q table k (2 * j) (mix q 1 (at table j) l high) ++ split_by q table k (2 * j + 1) (mix q 1 (q * at table j) l high)) first
    ∙ ap (λ h. split_by q table k (2 * j) (mix q 1 (at table j) (take (2 ^ k) f) h) ++ split_by q table k (2 * j + 1) (mix q 1 (q * at table j) (take (2 ^ k) f) h)) second
    ∙ ap (λ m. split_by q table m j f) (sym e)

pub join_one : (q half : ℕ) (halves : List ℕ) (levels k j : ℕ) (f low high : List ℕ) → levels ≡ suc k → low ≡ join_by q half halves k (2 * j) (take (2 ^ k) f) → high ≡ join_by q half halves k (2 * j + 1) (drop (2 ^ k) f)
    → mix q half half low high ++ mix q (at halves j) (q * at halves j) low high ≡ join_by q half halves levels j f
unfolding join_by
join_one q half halves levels k j f low high e first second =
    ap (λ l. mix q half half l high ++ mix q (at halves j) (q * at halves j) l high) first
    ∙ ap (λ h. mix q half half (join_by q half halves k (2 * j) (take (2 ^ k) f)) h ++ mix q (at halves j) (q * at halves j) (join_by q half halves k (2 * j) (take (2 ^ k) f)) h) second
    ∙ ap (λ m. join_by q half halves m j f) (sym e)
