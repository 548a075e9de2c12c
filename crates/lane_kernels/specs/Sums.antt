-- A reader has to trust this file. The plain sums that the kernels compute: rows of bytes are read
-- in step, one pair of bytes at a time.
use Rattle.std.specs.Prelude.{ℕ, ◌*◌, ◌==◌, if◌then◌else◌, List}
use Rattle.std.specs.Int.{abs_diff}
use Rattle.std.specs.List.{sum_by, zip}

-- how far two bytes are apart, whichever is larger: std's `abs_diff`
abbrev pub absolute_difference : ℕ × ℕ → ℕ
absolute_difference pair = abs_diff pair.0 pair.1

-- the square of that, as least squares has it
abbrev pub squared_difference : ℕ × ℕ → ℕ
squared_difference pair = absolute_difference pair * absolute_difference pair

-- the squared difference of a pair whose byte of the mask isn't 0, and nothing for another pair:
-- own
abbrev pub masked_squared_difference : (ℕ × ℕ) × ℕ → ℕ
masked_squared_difference masked = if masked.1 == 0 then 0 else squared_difference masked.0

-- SAD, the sum of absolute differences, by which block matching in video coding compares two blocks
abbrev pub sum_of_absolute_differences : List ℕ → List ℕ → ℕ
sum_of_absolute_differences a b = sum_by absolute_difference (zip a b)

-- SSD, the sum of squared differences, by which Kwatra et al. (2003) compare overlapping patches
abbrev pub sum_of_squared_differences : List ℕ → List ℕ → ℕ
sum_of_squared_differences a b = sum_by squared_difference (zip a b)

-- SSD over the pairs that a mask keeps, as Efros and Freeman (2001) compare a block with what is
-- already there
abbrev pub masked_sum_of_squared_differences : List ℕ → List ℕ → List ℕ → ℕ
masked_sum_of_squared_differences a b mask = sum_by masked_squared_difference (zip (zip a b) mask)
