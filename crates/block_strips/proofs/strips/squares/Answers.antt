use Rattle.std.proofs.Common.{◌≡◌, ℕ, ◌+◌, List, [], ◌∷◌, length, get_or, refl, sym, ◌∙◌, arith}
use Rattle.lane_kernels.specs.Sums.{squared_difference, sum_of_squared_differences}
use Rattle.block_strips.proofs.strips.squares.Goals as goal

-- a list of three numbers, by its numbers
three : (xs : List ℕ) → length xs ≡ 3 → xs ≡ get_or xs 0 0 ∷ get_or xs 1 0 ∷ get_or xs 2 0 ∷ []
three [] long = absurd (let none : ⊥ = omega (arith, long) in none)
three (x ∷ []) long = absurd (let none : ⊥ = omega (arith, long) in none)
three (x ∷ y ∷ []) long = absurd (let none : ⊥ = omega (arith, long) in none)
three (x ∷ y ∷ z ∷ []) long = refl
three (x ∷ y ∷ z ∷ more ∷ xs) long = absurd (let none : ⊥ = omega (arith, long) in none)

regrouped : (a b c : ℕ) → (a + b) + c ≡ ((0 + a) + b) + c
regrouped a b c = omega arith

pub returns-clause-sum : goal.returns-clause-sum
returns-clause-sum c =
    let a = c.args.a.now in
    let b = c.args.b.now in
    let square : ℕ → ℕ = λ i. squared_difference (get_or a i 0, get_or b i 0) in
    let whole : sum_of_squared_differences a b ≡ ((0 + square 0) + square 1) + square 2 = λ k. sum_of_squared_differences (three a c.requires.lengths.0 k) (three b c.requires.lengths.1 k) in
    (λ k. (c.square.ensures.is k + c.square-in-len3-len3.ensures.is k) + c.square-in-len3-len3-2.ensures.is k) ∙ regrouped (square 0) (square 1) (square 2) ∙ sym whole
