-- A list as the coefficients of a polynomial: its value at r.
use Rattle.std.proofs.Common.{◌≡◌, ℕ, ◌+◌, ◌*◌, ◌^◌, suc, List, [], ◌∷◌, ◌++◌, length, ap, arith}
use Rattle.std.proofs.Math.Nat.{pow-suc, pow-zero}
use Rattle.cyclic_products.specs.Residues.{IsCongruent, mix, mixed, zip_with}
use Rattle.cyclic_products.proofs.SameNumbers.{same_equal, same_mod, same_plus, same_refl, same_times, same_trans}

abbrev pub value : ℕ → List ℕ → ℕ
value r [] = 0
value r (x ∷ f) = x + r * value r f

pub value-append : (r : ℕ) (f g : List ℕ) → value r (f ++ g) ≡ value r f + r ^ length f * value r g
value-append r [] g =
    let one : r ^ 0 * value r g ≡ 1 * value r g = ap (λ n. n * value r g) (pow-zero r) in
    let whole : value r g ≡ 0 + r ^ 0 * value r g = omega (arith, one) in
    whole
value-append r (x ∷ f) g =
    let rest = value-append r f g in
    let more : r * value r (f ++ g) ≡ r * (value r f + r ^ length f * value r g) = ap (λ n. r * n) rest in
    let power : r ^ suc (length f) ≡ r ^ length f * r = pow-suc r (length f) in
    let whole : r ^ suc (length f) * value r g ≡ (r ^ length f * r) * value r g = ap (λ n. n * value r g) power in
    let sum : x + r * value r (f ++ g) ≡ (x + r * value r f) + r ^ suc (length f) * value r g = omega (arith, more, whole) in
    sum

-- the value of a sum of two lists, by fixed numbers
pub value-mix : (q a b r : ℕ) (f g : List ℕ) → length f ≡ length g → IsCongruent q (value r (mix q a b f g)) (a * value r f + b * value r g)
unfolding zip_with
value-mix q a b r [] [] e = same_equal q _ _ (omega arith)
value-mix q a b r [] (y ∷ g) e = absurd (omega (arith, e))
value-mix q a b r (x ∷ f) [] e = absurd (omega (arith, e))
value-mix q a b r (x ∷ f) (y ∷ g) e =
    let rest : IsCongruent q (value r (mix q a b f g)) (a * value r f + b * value r g) = value-mix q a b r f g (omega (arith, e)) in
    let more : IsCongruent q (r * value r (mix q a b f g)) (r * (a * value r f + b * value r g)) = same_times q r r _ _ (same_refl q r) rest in
    let both : IsCongruent q (mixed q a b x y + r * value r (mix q a b f g)) ((a * x + b * y) + r * (a * value r f + b * value r g)) =
    same_plus q _ _ _ _ (same_mod q (a * x + b * y)) more in
    same_trans q _ _ _ both (same_equal q _ _ (omega arith))
