-- Additions, and sums over any of them. Each law of a sum is proved once, for every addition: with
-- `counts` it speaks of `sum_to` and `sum_box`, with `integers` of `signed_sum_to` and `signed_sum_box`.
use Rattle.std.proofs.Common.{◌≡◌, ℕ, zero, suc, ◌+◌, refl, arith}
use Rattle.std.proofs.lemmas.Int.{ints}
use Rattle.std.specs.Prelude.{ℤ, pos, ◌+ℤ◌}
use Rattle.cells.specs.declared.place.Size.{Size}
use Rattle.boxes.specs.Sums.{sum_box, signed_sum_box}

-- an addition with its none, whose terms may be put together in any order
pub record Addition (A : Type 0) : Type 0 where
  pub none : A
  pub plus : A → A → A
  pub none_plus : (a : A) → plus none a ≡ a
  pub plus_none : (a : A) → plus a none ≡ a
  pub assoc : (a b c : A) → plus (plus a b) c ≡ plus a (plus b c)
  pub interchange : (a b c d : A) → plus (plus a b) (plus c d) ≡ plus (plus a c) (plus b d)

-- that of numbers
abbrev pub counts : Addition ℕ
counts = record {
  none = 0;
  plus = λ a b. a + b;
  none_plus = λ a. omega arith;
  plus_none = λ a. omega arith;
  assoc = λ a b c. omega arith;
  interchange = λ a b c d. omega arith;
}

-- that of signed numbers
abbrev pub integers : Addition ℤ
integers = record {
  none = pos 0;
  plus = λ a b. a +ℤ b;
  none_plus = λ a. omega (arith, ints);
  plus_none = λ a. omega (arith, ints);
  assoc = λ a b c. omega (arith, ints);
  interchange = λ a b c d. omega (arith, ints);
}

-- the sum of the terms below a bound
abbrev pub sum_of : {A : Type 0} → Addition A → ℕ → (ℕ → A) → A
sum_of add zero g = add.none
sum_of add (suc n) g = add.plus (sum_of add n g) (g n)

-- the sum over the cells of a box
abbrev pub sum_over : {A : Type 0} → Addition A → Size → (ℕ → ℕ → ℕ → A) → A
sum_over add size g = sum_of add size.f (λ f. sum_of add size.h (λ y. sum_of add size.w (λ x. g x y f)))

-- the sums of the contracts are those over the two additions
pub sum_box_is : (size : Size) (g : ℕ → ℕ → ℕ → ℕ) → sum_box size g ≡ sum_over counts size g
sum_box_is size g = refl

pub signed_sum_box_is : (size : Size) (g : ℕ → ℕ → ℕ → ℤ) → signed_sum_box size g ≡ sum_over integers size g
signed_sum_box_is size g = refl
