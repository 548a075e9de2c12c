-- The squared difference of two sums is at most the squared differences of their terms, as many times as
-- there are terms (Cauchy and Schwarz).
use Rattle.std.proofs.Common.{◌≡◌, ℕ, zero, suc, ◌+◌, ◌-◌, ◌*◌, ◌<◌, ◌≤◌, List, [], ◌∷◌, length, sym, ◌∙◌, subst, arith, ⊎_elim}
use Rattle.std.proofs.Math.Nat.{mul-le-mul, le_of_mul-le-mul_right}
use Rattle.std.proofs.lemmas.Bool.{cases_lt}
use Rattle.std.proofs.lemmas.List.Sums.{sum_by-cons}
use Rattle.std.specs.Prelude.{sum}
use Rattle.std.specs.Int.{abs_diff}
use Rattle.std.specs.List.{zip}
use Rattle.boxes.specs.Sums.{sum_to}
use Rattle.lane_kernels.specs.Sums.{absolute_difference, squared_difference as square_of, sum_of_absolute_differences, sum_of_squared_differences}
use Rattle.search_squares.specs.Blocks.{square_of_difference}

-- twice a product is at most the sum of the squares
twice : (a b : ℕ) → 2 * (a * b) ≤ a * a + b * b
twice a b =
    ⊎_elim
    (λ lt. let e : b ≡ a + (b - a) = omega arith in subst (λ n. 2 * (a * n) ≤ a * a + n * n) (sym e) (more a (b - a)))
    (λ le. let e : a ≡ b + (a - b) = omega arith in subst (λ n. 2 * (n * b) ≤ n * n + b * b) (sym e) (less b (a - b)))
    (cases_lt a b)
  where
    more : (a d : ℕ) → 2 * (a * (a + d)) ≤ a * a + (a + d) * (a + d)
    more a d = omega arith

    less : (b d : ℕ) → 2 * ((b + d) * b) ≤ (b + d) * (b + d) + b * b
    less b d = omega arith

-- the sums of n terms and of their squares, weighed against any two numbers
abbrev IsWeighed : ℕ → ℕ → ℕ → ℕ → ℕ → Type 0
IsWeighed t u n s q = 2 * (t * u * s) ≤ n * (t * t) + u * u * q

term_weighed : (t u e : ℕ) → IsWeighed t u 1 e (e * e)
term_weighed t u e = omega (arith, twice t (u * e))

more_weighed : (t u n e s q : ℕ) → IsWeighed t u 1 e (e * e) → IsWeighed t u n s q → IsWeighed t u (suc n) (e + s) (e * e + q)
more_weighed t u n e s q one all = omega arith

run_weighed : (t u n len s r p q : ℕ) → IsWeighed t u (n * len) s p → IsWeighed t u len r q → IsWeighed t u (suc n * len) (s + r) (p + q)
run_weighed t u n len s r p q all one = omega arith

row_weighed : (t u : ℕ) (a b : List ℕ) → length a ≡ length b → IsWeighed t u (length a) (sum_of_absolute_differences a b) (sum_of_squared_differences a b)
row_weighed t u [] [] same = omega arith
row_weighed t u [] (y ∷ b) same = absurd (omega arith)
row_weighed t u (x ∷ a) [] same = absurd (omega arith)
row_weighed t u (x ∷ a) (y ∷ b) same =
    subst (λ s. IsWeighed t u (suc (length a)) s (sum_of_squared_differences (x ∷ a) (y ∷ b))) (sym (sum_by-cons absolute_difference (x, y) (zip a b)))
    (subst (λ q. IsWeighed t u (suc (length a)) (abs_diff x y + sum_of_absolute_differences a b) q) (sym (sum_by-cons square_of (x, y) (zip a b)))
    (more_weighed t u (length a) (abs_diff x y) _ _ (term_weighed t u (abs_diff x y)) (row_weighed t u a b (omega arith))))

-- each of n rows has so many terms
abbrev AreLong : ℕ → ℕ → (ℕ → List ℕ) → Type 0
AreLong n len rows = (j : ℕ) → j < n → length (rows j) ≡ len

rows_weighed : (t u n len : ℕ) (a b : ℕ → List ℕ) → AreLong n len a → AreLong n len b
    → IsWeighed t u (n * len) (sum_to n (λ j. sum_of_absolute_differences (a j) (b j))) (sum_to n (λ j. sum_of_squared_differences (a j) (b j)))
rows_weighed t u zero len a b long_a long_b = omega arith
rows_weighed t u (suc n) len a b long_a long_b =
    let last = row_weighed t u (a n) (b n) (long_a n (omega arith) ∙ sym (long_b n (omega arith))) in
    run_weighed t u n len _ _ _ _
    (rows_weighed t u n len a b (λ j lt. long_a j (omega arith)) (λ j lt. long_b j (omega arith)))
    (subst (λ m. IsWeighed t u m (sum_of_absolute_differences (a n) (b n)) (sum_of_squared_differences (a n) (b n))) (long_a n (omega arith)) last)

-- sums are no further apart than their terms together
apart_more : (x y a b s a' b' s' : ℕ) → a' ≡ x + a → b' ≡ y + b → s' ≡ abs_diff x y + s → abs_diff a b ≤ s → abs_diff a' b' ≤ s'
apart_more x y a b s a' b' s' is_a is_b is_s le = omega arith

row_apart : (a b : List ℕ) → length a ≡ length b → abs_diff (sum a) (sum b) ≤ sum_of_absolute_differences a b
row_apart [] [] same = omega arith
row_apart [] (y ∷ b) same = absurd (omega arith)
row_apart (x ∷ a) [] same = absurd (omega arith)
row_apart (x ∷ a) (y ∷ b) same =
    apart_more x y (sum a) (sum b) _ _ _ _ (sum_by-cons (λ (n : ℕ). n) x a) (sum_by-cons (λ (n : ℕ). n) y b) (sum_by-cons absolute_difference (x, y) (zip a b)) (row_apart a b (omega arith))

apart_both : (a b s x y e : ℕ) → abs_diff a b ≤ s → abs_diff x y ≤ e → abs_diff (a + x) (b + y) ≤ s + e
apart_both a b s x y e all one = omega arith

rows_apart : (n len : ℕ) (a b : ℕ → List ℕ) → AreLong n len a → AreLong n len b
    → abs_diff (sum_to n (λ j. sum (a j))) (sum_to n (λ j. sum (b j))) ≤ sum_to n (λ j. sum_of_absolute_differences (a j) (b j))
rows_apart zero len a b long_a long_b = omega arith
rows_apart (suc n) len a b long_a long_b =
    apart_both _ _ _ _ _ _
    (rows_apart n len a b (λ j lt. long_a j (omega arith)) (λ j lt. long_b j (omega arith)))
    (row_apart (a n) (b n) (long_a n (omega arith) ∙ sym (long_b n (omega arith))))

square_weighed : (n d s q : ℕ) → 1 ≤ n → d ≤ s → IsWeighed s n n s q → d * d ≤ n * q
square_weighed n d s q some le weighed =
    let scaled : s * s * n ≤ n * q * n = omega arith in
    let whole : s * s ≤ n * q = le_of_mul-le-mul_right scaled (omega arith) in
    omega (arith, whole, mul-le-mul le le)

-- the squared difference of the sums of n rows of numbers
pub rows_difference : (n len : ℕ) (a b : ℕ → List ℕ) → AreLong n len a → AreLong n len b → 1 ≤ n * len
    → square_of_difference (sum_to n (λ j. sum (a j))) (sum_to n (λ j. sum (b j))) ≤ n * len * sum_to n (λ j. sum_of_squared_differences (a j) (b j))
rows_difference n len a b long_a long_b some =
    let s = sum_to n (λ j. sum_of_absolute_differences (a j) (b j)) in
    square_weighed (n * len) (abs_diff (sum_to n (λ j. sum (a j))) (sum_to n (λ j. sum (b j)))) s (sum_to n (λ j. sum_of_squared_differences (a j) (b j))) some
    (rows_apart n len a b long_a long_b) (rows_weighed s (n * len) n len a b long_a long_b)
