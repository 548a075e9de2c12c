-- Numbers of two digits are compared by their first digits first.
use Rattle.std.proofs.Common.{◌≡◌, ◌⊎◌, ℕ, ◌+◌, ◌*◌, ◌<◌, ◌≤◌, ap, arith, inl, inr, ⊎_elim}
use Rattle.std.proofs.Math.Nat.{mul-le-mul_left}
use Rattle.std.proofs.lemmas.Bool.{cases_lt}

-- a number of two digits that is at most another has a first digit that is at most the other's
pub lex : (n a b c d : ℕ) → a < n → c < n → a + n * b ≤ c + n * d → (b < d) ⊎ ((b ≡ d) × (a ≤ c))
lex n a b c d la lc le =
    ⊎_elim (λ less. inl less)
    (λ (from : d ≤ b).
    let same : b ≡ d = ⊎_elim (λ (more : d < b). absurd (omega (arith, le, la, lc, mul-le-mul_left n (let up : d + 1 ≤ b = omega (arith, more) in up)))) (λ (most : b ≤ d). omega (arith, most, from)) (cases_lt d b) in
    inr (same, omega (arith, le, ap (λ k. n * k) same)))
    (cases_lt b d)

pub lex_less : (n a b c d : ℕ) → a < n → c < n → a + n * b < c + n * d → (b < d) ⊎ ((b ≡ d) × (a < c))
lex_less n a b c d la lc less = ⊎_elim (λ lower. inl lower) (λ (same : (b ≡ d) × (a ≤ c)). inr (same.0, omega (arith, less, ap (λ k. n * k) same.0))) (lex n a b c d la lc (omega (arith, less)))
