-- How large the sums get: at most as many times the largest difference, or square, as the rows are long.
use Rattle.std.proofs.Common.{ℕ, ◌*◌, ◌<◌, ◌≤◌, List, length, Bool, true, false, if◌then◌else◌, ◌==◌, arith, mul-le-mul_left}
use Rattle.std.specs.Int.{abs_diff}
use Rattle.std.specs.List.{zip}
use Rattle.std.specs.Simd.Lanes.{Each1}
use Rattle.std.proofs.lemmas.Simd.{Each1-all}
use Rattle.lane_kernels.specs.Sums.{absolute_difference, squared_difference, masked_squared_difference, sum_of_absolute_differences, sum_of_squared_differences, masked_sum_of_squared_differences}
use Rattle.lane_kernels.proofs.Rows.{Each1-zip, length-zip-le, sum_by-bound}

difference_of_bytes : (x y : ℕ) → x < 256 → y < 256 → abs_diff x y ≤ 255
difference_of_bytes x y p q = omega arith

square_of_byte : (d : ℕ) → d ≤ 255 → d * d ≤ 65025
square_of_byte d le = grind arith

module _ (a b : List ℕ) (bytes_a : Each1 (λ x. x < 256) a) (bytes_b : Each1 (λ y. y < 256) b) where
  within_pairs : {Z : Type 0} (most : ℕ) (pairs : List Z) (sum : ℕ) → sum ≤ most * length pairs → length pairs ≤ length a → sum ≤ most * length a
  within_pairs most pairs sum le short = omega (arith, le, mul-le-mul_left most short)

  pub sad_bound : sum_of_absolute_differences a b ≤ 255 * length a
  sad_bound =
      within_pairs 255 (zip a b) _
      (sum_by-bound absolute_difference 255 (zip a b) (Each1-zip (λ x. x < 256) (λ y. y < 256) (λ p. absolute_difference p ≤ 255) difference_of_bytes a b bytes_a bytes_b))
      (length-zip-le a b)

  squares : Each1 (λ p. squared_difference p ≤ 65025) (zip a b)
  squares = Each1-zip (λ x. x < 256) (λ y. y < 256) (λ p. squared_difference p ≤ 65025) (λ x y p q. square_of_byte (abs_diff x y) (difference_of_bytes x y p q)) a b bytes_a bytes_b

  pub ssd_bound : sum_of_squared_differences a b ≤ 65025 * length a
  ssd_bound = within_pairs 65025 (zip a b) _ (sum_by-bound squared_difference 65025 (zip a b) squares) (length-zip-le a b)

  masked_square : (dropped : Bool) (square : ℕ) → square ≤ 65025 → (if dropped then 0 else square) ≤ 65025
  masked_square true square le = omega arith
  masked_square false square le = le

  pub ssd_masked_bound : (mask : List ℕ) → masked_sum_of_squared_differences a b mask ≤ 65025 * length a
  ssd_masked_bound mask =
      within_pairs 65025 (zip (zip a b) mask) _
      (sum_by-bound masked_squared_difference 65025 (zip (zip a b) mask)
      (Each1-zip (λ p. squared_difference p ≤ 65025) (λ m. Unit {0}) (λ q. masked_squared_difference q ≤ 65025)
      (λ p m le u. masked_square (m == 0) (squared_difference p) le) (zip a b) mask squares (Each1-all (λ m. Unit {0}) (λ m. tt) mask)))
      (omega (arith, length-zip-le (zip a b) mask, length-zip-le a b))
