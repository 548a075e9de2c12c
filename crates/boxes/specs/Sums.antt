-- What a reader has to trust: sums over the numbers below a bound, and over the cells of a box, x
-- first, then y, then f; of numbers, and of signed numbers. (Own.)
use Rattle.std.specs.Prelude.{ℕ, zero, suc, ◌+◌, ℤ, pos, ◌+ℤ◌}
use Rattle.cells.specs.declared.place.Size.{Size}

-- g 0 + g 1 + .. + g (n - 1)
abbrev pub sum_to : ℕ → (ℕ → ℕ) → ℕ
sum_to zero g = 0
sum_to (suc n) g = sum_to n g + g n

-- over the cells of a box, by their counts on the three axes
abbrev pub sum_box : Size → (ℕ → ℕ → ℕ → ℕ) → ℕ
sum_box size g = sum_to size.f (λ f. sum_to size.h (λ y. sum_to size.w (λ x. g x y f)))

-- the same of signed numbers
abbrev pub signed_sum_to : ℕ → (ℕ → ℤ) → ℤ
signed_sum_to zero g = pos 0
signed_sum_to (suc n) g = signed_sum_to n g +ℤ g n

abbrev pub signed_sum_box : Size → (ℕ → ℕ → ℕ → ℤ) → ℤ
signed_sum_box size g =
    signed_sum_to size.f (λ f. signed_sum_to size.h (λ y. signed_sum_to size.w (λ x. g x y f)))
