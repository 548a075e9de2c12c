-- Lanes of 16 bits that stand for signed numbers, by their bits.
use Rattle.std.proofs.Common.{◌≡◌, ◌∙◌, ℕ, zero, suc, ◌+◌, ◌-◌, ◌*◌, ◌/◌, ◌%◌, ◌^◌, ◌<◌, ◌≤◌, Bool, true, false, if◌then◌else◌, nat_lt, List, [], ◌∷◌, length, map, get_or, replicate, refl, ap, sym, subst, arith, w16, w32, Fits}
use Rattle.std.proofs.Math.Nat.{le_trans, mul-le-mul, mul-le-mul_left}
use Rattle.std.proofs.Math.IntN.{nat_abs}
use Rattle.std.specs.Prelude.{ℤ, pos, negsuc}
use Rattle.std.specs.Int.{abs_diff, cast_signed, cast_unsigned}
use Rattle.std.specs.Simd.Lanes.{zip2, Each1, digits_l, number_l}
use Rattle.std.proofs.lemmas.Int.{of_z-to_z, to_z_pos}
use Rattle.std.proofs.Math.Facts.{to_z-neg}
use Rattle.search_squares.specs.Lanes.{from_zero}
use borrow.Author.Tests.{ltb-true, ltb-false}
use Rattle.std.specs.Int.Signed.{shr_z, non_neg}
use lib.Dec.{T}

-- twice so many bytes as lanes
abbrev pub double : ℕ → ℕ
double zero = zero
double (suc n) = suc (suc (double n))

-- lanes that are made of the bytes of lanes are those
pub bytes_back : (xs : List ℕ) → Each1 (λ x. x < 65536) xs → digits_l 65536 (length xs) (number_l 256 (digits_l 256 (double (length xs)) (number_l 65536 xs))) ≡ xs
bytes_back [] small = refl
bytes_back (x ∷ xs) small = λ i. first i ∷ (rest ∙ bytes_back xs small.1) i
  where
    after : ℕ
    after = number_l 65536 xs

    bytes : ℕ → ℕ
    bytes n = number_l 256 (digits_l 256 (double (length xs)) n)

    whole : ℕ
    whole = x + 65536 * after

    of_two : ℕ
    of_two = (whole % 256) + 256 * ((whole / 256) % 256 + 256 * bytes (whole / 256 / 256))

    first : of_two % 65536 ≡ x
    first = omega (arith, small.0)

    high : of_two / 65536 ≡ bytes (whole / 256 / 256)
    high = omega (arith, small.0)

    beyond : whole / 256 / 256 ≡ after
    beyond = omega (arith, small.0)

    rest : digits_l 65536 (length xs) (of_two / 65536) ≡ digits_l 65536 (length xs) (bytes after)
    rest = ap (digits_l 65536 (length xs)) (high ∙ ap bytes beyond)

-- the bits of a lane as one of 32
abbrev pub wide : ℕ → ℕ
wide n = cast_unsigned w32 (cast_signed w16 n)

-- lanes of 32 bits times each other, and shifted down
abbrev pub multiplied : ℕ → ℕ → ℕ
multiplied a b = (a * b) % 2 ^ 32

abbrev pub shifted : ℕ → ℕ → ℕ
shifted a b = cast_unsigned w32 (shr_z (cast_signed w32 a) (2 ^ b))

-- the number that is left in 16 bits
abbrev pub narrowed : ℕ → ℕ
narrowed n = nat_abs (cast_signed w32 n)

-- it fits
abbrev pub IsNarrow : ℕ → Type 0
IsNarrow n = T (non_neg (cast_signed w32 n)) × Fits w16 (narrowed n)

-- the square of a number below 0, by its 32 bits
square_of_negative : (x n : ℕ) → x + n ≡ 4294967296 → n ≤ 32768 → (x * x) % 4294967296 ≡ n * n
square_of_negative x n whole few =
    let first : x * (x + n) ≡ x * 4294967296 = ap (λ (t : ℕ). x * t) whole in
    let second : n * (x + n) ≡ n * 4294967296 = ap (λ (t : ℕ). n * t) whole in
    let most : n * n ≤ 1073741824 = mul-le-mul few few in
    omega (arith, whole, few, first, second, most)

module _ (a : ℕ) (small : a < 65536) where
  -- its bits, read and written
  abbrev lane : ℕ
  lane = wide (cast_unsigned w16 (cast_signed w16 a))

  as_read : lane ≡ wide a
  as_read = ap wide (of_z-to_z w16 a small)

  of_half : (P : ℕ → Type 0) → (a < 32768 → P a) → (32768 ≤ a → P (65536 - a)) → P (from_zero a)
  of_half P low high = by_half (nat_lt a 32768) refl
    where
      by_half : (b : Bool) → nat_lt a 32768 ≡ b → P (from_zero a)
      by_half true e = subst (λ (t : Bool). P (if t then a else 65536 - a)) (sym e) (low (ltb-true a 32768 e))
      by_half false e = subst (λ (t : Bool). P (if t then a else 65536 - a)) (sym e) (high (ltb-false a 32768 e))

  low : a < 32768 → multiplied lane lane ≡ a * a
  low lt =
      let is : lane ≡ a = as_read ∙ ap (cast_unsigned w32) (to_z_pos w16 a lt) in
      let le : a ≤ 32767 = omega arith in
      let most : a * a ≤ 1073676289 = mul-le-mul le le in
      let fits : (a * a) % 4294967296 ≡ a * a = omega (arith, most) in
      ap (λ (n : ℕ). multiplied n n) is ∙ fits

  high : 32768 ≤ a → multiplied lane lane ≡ (65536 - a) * (65536 - a)
  high le =
      let at : 65536 - suc (65535 - a) ≡ a = omega arith in
      let read : cast_signed w16 a ≡ negsuc (65535 - a) = subst (λ (n : ℕ). cast_signed w16 n ≡ negsuc (65535 - a)) at (to_z-neg w16 (65535 - a) (omega arith)) in
      let is : lane ≡ 4294967296 - suc (65535 - a) = as_read ∙ ap (cast_unsigned w32) read in
      let square : ((4294967296 - suc (65535 - a)) * (4294967296 - suc (65535 - a))) % 4294967296 ≡ (65536 - a) * (65536 - a) = square_of_negative (4294967296 - suc (65535 - a)) (65536 - a) (omega arith) (omega arith) in
      ap (λ (n : ℕ). multiplied n n) is ∙ square

  square_of_lane : multiplied lane lane ≡ from_zero a * from_zero a
  square_of_lane = of_half (λ (n : ℕ). multiplied lane lane ≡ n * n) low high

  few : from_zero a ≤ 32768
  few = of_half (λ (n : ℕ). n ≤ 32768) (λ lt. omega arith) (λ le. omega arith)

  abbrev square : ℕ
  square = from_zero a * from_zero a

  few_squares : square ≤ 1073741824
  few_squares = mul-le-mul few few

  high_of_lane : shifted (multiplied lane lane) 16 ≡ square / 65536
  high_of_lane =
      ap (λ (n : ℕ). shifted n 16) square_of_lane
      ∙ ap (λ (z : ℤ). cast_unsigned w32 (shr_z z 65536)) (to_z_pos w32 square (omega (arith, few_squares)))

  high_is : cast_signed w32 (shifted (multiplied lane lane) 16) ≡ pos (square / 65536)
  high_is = ap (cast_signed w32) high_of_lane ∙ to_z_pos w32 (square / 65536) (omega (arith, few_squares))

  pub narrow : IsNarrow (shifted (multiplied lane lane) 16)
  narrow = subst (λ (z : ℤ). T (non_neg z) × Fits w16 (nat_abs z)) (sym high_is) (tt, record { fits = omega (arith, few_squares) })

  pub high_at_most : 65536 * narrowed (shifted (multiplied lane lane) 16) ≤ from_zero a * from_zero a
  high_at_most = subst (λ (z : ℤ). 65536 * nat_abs z ≤ square) (sym high_is) (omega arith)

-- the high halves of the squares of lanes, by 32 bits
abbrev wide_lanes : List ℕ → List ℕ
wide_lanes xs = map wide (map (cast_unsigned w16) (map (cast_signed w16) xs))

abbrev pub high_halves : List ℕ → ℕ → List ℕ
high_halves xs n = zip2 shifted (zip2 multiplied (wide_lanes xs) (wide_lanes xs)) (replicate n 16)

pub all_narrow : (xs : List ℕ) (n : ℕ) → Each1 (λ x. x < 65536) xs → Each1 IsNarrow (high_halves xs n)
all_narrow [] n small = tt
all_narrow (x ∷ xs) zero small = tt
all_narrow (x ∷ xs) (suc n) small = (narrow x small.0, all_narrow xs n small.1)

pub halves_at_most : (xs : List ℕ) (n j : ℕ) → Each1 (λ x. x < 65536) xs → 65536 * get_or (map narrowed (high_halves xs n)) j 0 ≤ from_zero (get_or xs j 0) * from_zero (get_or xs j 0)
halves_at_most [] n j small = omega arith
halves_at_most (x ∷ xs) zero j small = omega arith
halves_at_most (x ∷ xs) (suc n) zero small = high_at_most x small.0
halves_at_most (x ∷ xs) (suc n) (suc j) small = halves_at_most xs n j small.1

-- no number is further from 0 than it says
at_most : (n : ℕ) → n < 65536 → (from_zero n ≤ n) × (from_zero n ≤ 65536 - n)
at_most n small = of_half n small (λ m. (m ≤ n) × (m ≤ 65536 - n)) (λ lt. (omega arith, omega arith)) (λ le. (omega arith, omega arith))

-- a product by its low 16 bits, of a number that is so far from 2^16
of_product : (x far factor : ℕ) → x + far ≡ 65536 → from_zero ((x * factor) % 65536) ≤ factor * far
of_product x far factor whole =
    let product : factor * (x + far) ≡ factor * 65536 = ap (λ (n : ℕ). factor * n) whole in
    let near = at_most ((x * factor) % 65536) (omega arith) in
    omega (arith, product, near.0, near.1)

product_at_most : (x factor : ℕ) → x < 65536 → from_zero ((x * factor) % 65536) ≤ factor * from_zero x
product_at_most x factor small =
    let near = at_most ((x * factor) % 65536) (omega arith) in
    of_half x small (λ n. from_zero ((x * factor) % 65536) ≤ factor * n) (λ lt. omega (arith, near.0)) (λ le. of_product x (65536 - x) factor (omega arith))

-- a difference by its low 16 bits
abbrev pub less : ℕ → ℕ → ℕ
less x y = (x + (65536 - y)) % 65536

difference_at_most : (x y : ℕ) → x < 65536 → y < 65536 → from_zero (less x y) ≤ abs_diff y x
difference_at_most x y small_x small_y =
    let near = at_most (less x y) (omega arith) in
    omega (arith, near.0, near.1, small_x, small_y)

-- taken so many times
pub differences_at_most : (xs : List ℕ) (n sum factor j : ℕ) → Each1 (λ x. x < 65536) xs → sum < 65536
    → from_zero (get_or (zip2 (λ a b. (a * b) % 65536) (zip2 less xs (replicate n sum)) (replicate n factor)) j 0) ≤ factor * abs_diff sum (get_or xs j 0)
differences_at_most [] n sum factor j small few = omega arith
differences_at_most (x ∷ xs) zero sum factor j small few = omega arith
differences_at_most (x ∷ xs) (suc n) sum factor zero small few =
    le_trans (product_at_most (less x sum) factor (omega arith)) (mul-le-mul_left factor (difference_at_most x sum small.0 few))
differences_at_most (x ∷ xs) (suc n) sum factor (suc j) small few = differences_at_most xs n sum factor j small.1 few
