-- Sums of runs of entries at equal steps, by the sums of all entries after.
use Rattle.std.proofs.Common.{◌≡◌, ℕ, zero, suc, ◌+◌, ◌*◌, ◌≤◌, List, get_or, ap, arith}
use Rattle.boxes.specs.Sums.{sum_to}
use Rattle.boxes.proofs.Bounds.{sum_bound}

-- where each sum has its own entry and the sum one step on, it has a run and the sum after the run
pub sum_after : (old sums : List ℕ) (step : ℕ) → ((j : ℕ) → get_or sums j 0 ≡ get_or old j 0 + get_or sums (j + step) 0)
    → (n j : ℕ) → get_or sums j 0 ≡ sum_to n (λ t. get_or old (j + step * t) 0) + get_or sums (j + step * n) 0
sum_after old sums step each zero j = let here : j ≡ j + step * 0 = omega arith in omega (arith, ap (λ k. get_or sums k 0) here)
sum_after old sums step each (suc n) j =
    let next : j + step * n + step ≡ j + step * suc n = omega arith in
    omega (arith, sum_after old sums step each n j, each (j + step * n), ap (λ k. get_or sums k 0) next)

-- one entry is the sum of a run of one
pub run_of_one : (old : List ℕ) (step len j : ℕ) → len ≡ 1 → get_or old j 0 ≡ sum_to len (λ t. get_or old (j + step * t) 0)
run_of_one old step len j one =
    let here : j ≡ j + step * 0 = omega arith in
    let single : get_or old j 0 ≡ sum_to 1 (λ t. get_or old (j + step * t) 0) = omega (arith, ap (λ k. get_or old k 0) here) in
    omega (arith, single, ap (λ n. sum_to n (λ t. get_or old (j + step * t) 0)) one)

-- a run of entries of at most b
pub run_at_most : (old : List ℕ) (step len b j : ℕ) → ((k : ℕ) → get_or old k 0 ≤ b) → sum_to len (λ t. get_or old (j + step * t) 0) ≤ len * b
run_at_most old step len b j le = sum_bound len b (λ t. get_or old (j + step * t) 0) (λ t lt. le (j + step * t))
