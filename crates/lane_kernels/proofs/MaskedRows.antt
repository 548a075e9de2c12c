-- A masked sum over rows that are read in step with a mask: part by part.
use Rattle.std.proofs.Common.{◌≡◌, ◌∙◌, ℕ, List, ◌+◌, ◌-◌, ◌≤◌, length, ap, sym, arith, take, drop}
use Rattle.std.specs.List.{sum_by, zip}
use Rattle.lane_kernels.specs.Sums.{masked_squared_difference, masked_sum_of_squared_differences}
use Rattle.lane_kernels.proofs.Rows.{row_from, take-zip, drop-zip, sum_by-zip_more, sum_by-zip_split}

module _ (a b mask : List ℕ) (at : ℕ) where
  -- the first `at` places, and the n after them
  more : (n : ℕ) → masked_sum_of_squared_differences (take (at + n) a) (take (at + n) b) (take (at + n) mask)
      ≡ masked_sum_of_squared_differences (take at a) (take at b) (take at mask) + masked_sum_of_squared_differences (take n (drop at a)) (take n (drop at b)) (take n (drop at mask))
  more n =
      ap (λ pairs. sum_by masked_squared_difference (zip pairs (take (at + n) mask))) (sym (take-zip (at + n) a b))
      ∙ sum_by-zip_more masked_squared_difference (zip a b) mask at n
      ∙ (λ i. sum_by masked_squared_difference (zip (take-zip at a b i) (take at mask))
      + sum_by masked_squared_difference (zip ((ap (take n) (drop-zip at a b) ∙ take-zip n (drop at a) (drop at b)) i) (take n (drop at mask))))

  -- the first `at` places, and all after them
  split : masked_sum_of_squared_differences (take at a) (take at b) (take at mask) + masked_sum_of_squared_differences (drop at a) (drop at b) (drop at mask) ≡ masked_sum_of_squared_differences a b mask
  split =
      (λ i. sum_by masked_squared_difference (zip (sym (take-zip at a b) i) (take at mask)) + sum_by masked_squared_difference (zip (sym (drop-zip at a b) i) (drop at mask)))
      ∙ sum_by-zip_split masked_squared_difference (zip a b) mask at

  -- a total over the first `at` places, and the sum of the n after them, in the rows as the code borrows them
  pub masked_total_more : (n total next : ℕ) → total ≡ masked_sum_of_squared_differences (take at a) (take at b) (take at mask)
      → next ≡ masked_sum_of_squared_differences (take n (take (length a - at) (drop at a))) (take n (take (length b - at) (drop at b))) (take n (take (length mask - at) (drop at mask)))
      → total + next ≡ masked_sum_of_squared_differences (take (at + n) a) (take (at + n) b) (take (at + n) mask)
  masked_total_more n total next so_far after =
      (λ i. so_far i + (after ∙ (λ j. masked_sum_of_squared_differences (take n (row_from a at j)) (take n (row_from b at j)) (take n (row_from mask at j)))) i)
      ∙ sym (more n)

  -- the same total, and the sum of all after those places
  pub masked_total_whole : (total next : ℕ) → total ≡ masked_sum_of_squared_differences (take at a) (take at b) (take at mask)
      → next ≡ masked_sum_of_squared_differences (take (length a - at) (drop at a)) (take (length b - at) (drop at b)) (take (length mask - at) (drop at mask))
      → total + next ≡ masked_sum_of_squared_differences a b mask
  masked_total_whole total next so_far after =
      (λ i. so_far i + (after ∙ (λ j. masked_sum_of_squared_differences (row_from a at j) (row_from b at j) (row_from mask at j))) i)
      ∙ split

  -- it is at most the whole sum
  pub masked_total_within : (total : ℕ) → total ≡ masked_sum_of_squared_differences (take at a) (take at b) (take at mask) → total ≤ masked_sum_of_squared_differences a b mask
  masked_total_within total so_far = omega (arith, split)
