-- What a list is split into: its values at the roots.
use Rattle.std.proofs.Common.{◌≡◌, ℕ, ◌+◌, ◌*◌, ◌^◌, ◌≤◌, ◌<◌, zero, suc, List, [], ◌∷◌, ◌++◌, length, take, drop, sym, ◌∙◌, ap, arith, length-append}
use Rattle.std.specs.List.{AllZip}
use Rattle.std.proofs.Math.Nat.{mul-le-mul_left, pow-suc, pow-zero, two-pow-succ}
use Rattle.std.proofs.lemmas.Nat.{pow-add, pow_pos}
use Rattle.std.proofs.lemmas.List.{take-append-drop, length-take-le, length-drop}
use Rattle.cyclic_products.specs.Residues.{IsCongruent, mix}
use Rattle.cyclic_products.specs.Splits.{HasSquares, at, split_by}
use Rattle.cyclic_products.proofs.SameNumbers.{same_by, same_equal, same_plus, same_refl, same_sym, same_times, same_trans}
use Rattle.cyclic_products.proofs.Lists.{all_zip_append, all_zip_weaker, length-zip_with}
use Rattle.cyclic_products.proofs.Values.{value, value-append, value-mix}

-- the roots of polynomial j, which is x^(2^k) - c, modulo q + 1
unfoldable pub roots_of : ℕ → List ℕ → ℕ → ℕ → ℕ → List ℕ
roots_of q table zero j c = c ∷ []
roots_of q table (suc k) j c =
    roots_of q table k (2 * j) (at table j) ++ roots_of q table k (2 * j + 1) (q * at table j)

-- h is the value at r, a root of a polynomial
pub record IsValueAt (q k c : ℕ) (f : List ℕ) (h r : ℕ) : Type 0 where
  pub value : IsCongruent q h (value r f)
  pub root : IsCongruent q (r ^ (2 ^ k)) c

-- the square of -a is that of a
pub minus_squared : (q a c : ℕ) → IsCongruent q (a * a) c → IsCongruent q ((q * a) * (q * a)) c
minus_squared q a c e =
    same_trans q _ (a * a) c (same_by q _ _ (a * a) (q * (a * a)) (omega arith)) e

-- a value of a half's residue is one of the whole
value_of_half : (q k a c h r : ℕ) (low high f : List ℕ) → low ++ high ≡ f → length low ≡ 2 ^ k → length high ≡ 2 ^ k → IsCongruent q (a * a) c → IsValueAt q k a (mix q 1 a low high) h r → IsValueAt q (suc k) c f h r
value_of_half q k a c h r low high f whole first second squared at_half =
    let parts : value r f ≡ value r low + r ^ (2 ^ k) * value r high =
    ap (λ g. value r g) (sym whole) ∙ value-append r low high ∙ ap (λ n. value r low + r ^ n * value r high) first in
    let mixed_value : IsCongruent q (value r (mix q 1 a low high)) (1 * value r low + a * value r high) = value-mix q 1 a r low high (first ∙ sym second) in
    let power : IsCongruent q (r ^ (2 ^ k) * value r high) (a * value r high) = same_times q _ a _ _ at_half.root (same_refl q (value r high)) in
    let sum : IsCongruent q (1 * value r low + a * value r high) (value r low + r ^ (2 ^ k) * value r high) =
    same_plus q _ _ _ _ (same_equal q _ _ (omega arith)) (same_sym q _ _ power) in
    let twice : r ^ (2 ^ suc k) ≡ r ^ (2 ^ k) * r ^ (2 ^ k) = ap (λ n. r ^ n) (two-pow-succ k) ∙ pow-add r (2 ^ k) (2 ^ k) in
    record {
      value = same_trans q _ _ _ at_half.value (same_trans q _ _ _ mixed_value (same_trans q _ _ _ sum (same_equal q _ _ (sym parts))));
      root = same_trans q _ _ _ (same_equal q _ _ twice) (same_trans q _ _ _ (same_times q _ _ _ _ at_half.root at_half.root) squared);
    }

-- the numbers of a level's table that its polynomials need
pub room_below : (j k n : ℕ) → (j + 1) * 2 ^ suc k ≤ 2 * n → (2 * j + 1 + 1) * 2 ^ k ≤ 2 * n
room_below j k n room =
    let twice : 2 ^ suc k ≡ 2 ^ k + 2 ^ k = two-pow-succ k in
    let product : (j + 1) * 2 ^ suc k ≡ (j + 1) * (2 ^ k + 2 ^ k) = ap (λ m. (j + 1) * m) twice in
    omega (arith, product, room)

pub room_here : (j k n : ℕ) → (j + 1) * 2 ^ suc k ≤ 2 * n → j < n
room_here j k n room =
    let twice : 2 ^ suc k ≡ 2 ^ k + 2 ^ k = two-pow-succ k in
    let product : (j + 1) * 2 ^ suc k ≡ (j + 1) * (2 ^ k + 2 ^ k) = ap (λ m. (j + 1) * m) twice in
    let least : (j + 1) * 1 ≤ (j + 1) * 2 ^ k = mul-le-mul_left (j + 1) (pow_pos k) in
    omega (arith, product, room, least)

first_power : (c : ℕ) → c ^ (2 ^ 0) ≡ c
first_power c =
    let one : c ^ suc 0 ≡ c ^ 0 * c = pow-suc c 0 in
    let none : c ^ 0 * c ≡ 1 * c = ap (λ n. n * c) (pow-zero c) in
    let whole : c ^ suc 0 ≡ c = omega (arith, one, none) in
    whole

pub are_values : (q : ℕ) (table : List ℕ) → HasSquares q table → (k j c : ℕ) (f : List ℕ) → length f ≡ 2 ^ k → (j + 1) * 2 ^ k ≤ 2 * length table → (j < length table → IsCongruent q (at table j * at table j) c) → AllZip (IsValueAt q k c f) (split_by q table k j f) (roots_of q table k j c)
unfolding split_by roots_of
are_values q table squares zero j c [] whole room squared = absurd (omega (arith, whole))
are_values q table squares zero j c (x ∷ y ∷ f) whole room squared = absurd (omega (arith, whole))
are_values q table squares zero j c (x ∷ []) whole room squared =
    (record { value = same_equal q _ _ (omega arith); root = same_equal q _ _ (first_power c) }, tt)
are_values q table squares (suc k) j c f whole room squared =
    let a = at table j in
    let low = take (2 ^ k) f in
    let high = drop (2 ^ k) f in
    let twice : 2 ^ suc k ≡ 2 ^ k + 2 ^ k = two-pow-succ k in
    let first : length low ≡ 2 ^ k = length-take-le (2 ^ k) f (omega (arith, twice, whole)) in
    let second : length high ≡ 2 ^ k = omega (arith, length-drop (2 ^ k) f, twice, whole) in
    let both : low ++ high ≡ f = take-append-drop (2 ^ k) f in
    let below = room_below j k (length table) room in
    let here : j < length table = room_here j k (length table) room in
    let plus = are_values q table squares k (2 * j) a (mix q 1 a low high) (length-zip_with _ low high (first ∙ sym second) ∙ first) (omega (arith, below)) (λ less. squares.even j less) in
    let minus = are_values q table squares k (2 * j + 1) (q * a) (mix q 1 (q * a) low high) (length-zip_with _ low high (first ∙ sym second) ∙ first) below (λ less. squares.odd j less) in
    all_zip_append _ _ _ _ _
    (all_zip_weaker _ _ _ _ (λ h r v. value_of_half q k a c h r low high f both first second (squared here) v) plus)
    (all_zip_weaker _ _ _ _ (λ h r v. value_of_half q k (q * a) c h r low high f both first second (minus_squared q a c (squared here)) v) minus)

pub length-split_by : (q : ℕ) (table : List ℕ) (k j : ℕ) (f : List ℕ) → length f ≡ 2 ^ k → length (split_by q table k j f) ≡ 2 ^ k
unfolding split_by
length-split_by q table zero j f whole = whole
length-split_by q table (suc k) j f whole =
    let a = at table j in
    let low = take (2 ^ k) f in
    let high = drop (2 ^ k) f in
    let twice : 2 ^ suc k ≡ 2 ^ k + 2 ^ k = two-pow-succ k in
    let first : length low ≡ 2 ^ k = length-take-le (2 ^ k) f (omega (arith, twice, whole)) in
    let second : length high ≡ 2 ^ k = omega (arith, length-drop (2 ^ k) f, twice, whole) in
    let plus = length-split_by q table k (2 * j) (mix q 1 a low high) (length-zip_with _ low high (first ∙ sym second) ∙ first) in
    let minus = length-split_by q table k (2 * j + 1) (mix q 1 (q * a) low high) (length-zip_with _ low high (first ∙ sym second) ∙ first) in
    omega (arith, length-append (split_by q table k (2 * j) (mix q 1 a low high)) (split_by q table k (2 * j + 1) (mix q 1 (q * a) low high)), plus, minus, twice)
