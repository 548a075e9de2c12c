-- Bytes that are the same have no squared differences.
use Rattle.std.proofs.Common.{◌≡◌, ◌*◌, ℕ, List, [], ◌∷◌, refl, sym, subst, arith}
use Rattle.std.proofs.lemmas.List.Sums.{sum_by-cons}
use Rattle.std.specs.Int.{abs_diff}
use Rattle.std.specs.List.{zip}
use Rattle.lane_kernels.specs.Sums.{squared_difference, sum_of_squared_differences}

pub no_difference : (x : ℕ) → squared_difference (x, x) ≡ 0
no_difference x =
    let zero : abs_diff x x ≡ 0 = omega arith in
    subst (λ d. d * d ≡ 0) (sym zero) refl

pub same_bytes : (xs : List ℕ) → sum_of_squared_differences xs xs ≡ 0
same_bytes [] = refl
same_bytes (x ∷ xs) = omega (arith, sum_by-cons squared_difference (x, x) (zip xs xs), no_difference x, same_bytes xs)

pub no_differences : (a b : List ℕ) → a ≡ b → 0 ≡ sum_of_squared_differences a b
no_differences a b same = subst (λ bytes. 0 ≡ sum_of_squared_differences a bytes) same (sym (same_bytes a))
