-- Errors per filled cell: how they compare, and the best of a list.
use Rattle.std.proofs.Common.{◌≡◌, ℕ, ◌+◌, ◌*◌, ◌<◌, ◌≤◌, Bool, true, false, refl, sym, ap, ◌∙◌, arith, List, [], ◌∷◌, ◌++◌, inl, inr}
use Rattle.std.proofs.Math.Nat.{mul-le-mul_right, mul-le-mul_left, le_of_mul-le-mul_right}
use Rattle.std.proofs.lemmas.Bool.{false≢true, false_from_ne_true, le-leb, leb-false, leb-true}
use Rattle.std.proofs.lemmas.List.Elements.{Contains-push, Contains-push_cases}
use Rattle.std.specs.Prelude.{◌&&◌, nat_lt}
use Rattle.match_error.specs.declared.error.Error.{Error}
use Rattle.match_error.specs.Errors.{is_within}
use Rattle.patch_picks.specs.Picks.{IsBest, is_eligible}

-- a/b ≤ c/d and c/d ≤ e/f
pub between : (a b c d e f : ℕ) → 1 ≤ d → a * d ≤ c * b → c * f ≤ e * d → a * f ≤ e * b
between a b c d e f some low high =
    let first : a * d * f ≤ c * b * f = mul-le-mul_right f low in
    let second : c * f * b ≤ e * d * b = mul-le-mul_right b high in
    let all : a * f * d ≤ e * b * d = omega (arith, first, second) in
    le_of_mul-le-mul_right all (omega arith)

same_bool : (a b : Bool) → (a ≡ true → b ≡ true) → (b ≡ true → a ≡ true) → a ≡ b
same_bool true b to back = sym (to refl)
same_bool false true to back = back refl
same_bool false false to back = refl

-- what is within the tolerance of a better error is within that of a worse one
pub still_within : (t : ℕ) (best other error : Error) → 1 ≤ best.count → best.sum * other.count ≤ other.sum * best.count → is_within t best error ≡ true → is_within t other error ≡ true
still_within t best other error some le within =
    let here : error.sum * best.count * 100 ≤ best.sum * error.count * (100 + t) = leb-true _ _ within in
    let there : error.sum * 100 * other.count ≤ other.sum * (error.count * (100 + t)) =
    between (error.sum * 100) (error.count * (100 + t)) best.sum best.count other.sum other.count some (omega (arith, here)) le in
    le-leb (error.sum * other.count * 100) (other.sum * error.count * (100 + t)) (omega (arith, there))

-- two best errors have the same errors within their tolerance
pub same_eligible : (t : ℕ) (errors : List Error) (best other : Error) → IsBest errors best → IsBest errors other → (error : Error) → is_eligible t best error ≡ is_eligible t other error
same_eligible t errors best other is also error =
    ap (λ (b : Bool). nat_lt 0 error.count && b)
    (same_bool (is_within t best error) (is_within t other error)
    (still_within t best other error is.filled (is.least other also.listed also.filled))
    (still_within t other best error also.filled (also.least best is.listed is.filled)))

-- an error that is outside the tolerance of another is the greater one
pub far_is_more : (t : ℕ) (other error : Error) → is_within t other error ≡ false → other.sum * error.count < error.sum * other.count
far_is_more t other error far =
    let more : other.sum * error.count * (100 + t) < error.sum * other.count * 100 = leb-false _ _ far in
    let least : other.sum * error.count * 100 ≤ other.sum * error.count * (100 + t) = mul-le-mul_left (other.sum * error.count) (omega arith) in
    omega (arith, more, least)

-- an error is within the tolerance of itself
pub within_itself : (tol : ℕ) (error : Error) → is_within tol error error ≡ true
within_itself tol error = le-leb (error.sum * error.count * 100) (error.sum * error.count * (100 + tol)) (mul-le-mul_left (error.sum * error.count) (omega arith))

-- what is outside the tolerance of an error is outside that of one which the error is too far from
pub far_from_better : (tol : ℕ) (better error far : Error) → 1 ≤ better.count → is_within tol better error ≡ false → is_within tol error far ≡ false → is_within tol better far ≡ false
far_from_better tol better error far filled first second =
    let more : better.sum * error.count < error.sum * better.count = far_is_more tol better error first in
    false_from_ne_true (is_within tol better far) (λ within. false≢true (sym second ∙ still_within tol better error far filled (omega (arith, more)) within))

-- a better error
pub best_of_less : (best error : Error) → 1 ≤ error.count → error.sum * best.count < best.sum * error.count → (errors : List Error) → IsBest errors best → IsBest (errors ++ error ∷ []) error
best_of_less best error some less errors is = record {
  listed = Contains-push errors error;
  filled = some;
  least = λ other has filled.
      elim (Contains-push_cases errors error other has) [
        | inl old ↦ between error.sum error.count best.sum best.count other.sum other.count is.filled (omega arith) (is.least other old filled)
        | inr same ↦ omega (arith, ap (λ (e : Error). error.sum * e.count) same, ap (λ (e : Error). e.sum * error.count) same)
      ];
}
