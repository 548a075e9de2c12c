use Rattle.std.proofs.Common.{◌∙◌, ◌<◌, ◌≤◌, ◌*◌, ℕ, Fits, w8, w32, length, arith, zero-add}
use Rattle.std.specs.Simd.Lanes.{zip2, sum_l}
use Rattle.std.proofs.lemmas.List.{map-id}
use Rattle.std.proofs.lemmas.Simd.{Each2-of, sum_fits, fold-sum, below_from_Fits}
use Rattle.lane_kernels.specs.declared.block.TheConstants.{LANES}
use Rattle.lane_kernels.proofs.Lanes.{byte_product, sum_of_squares_fits, sum_l-squares}
use Rattle.lane_kernels.proofs.block.lane_square_sum.Goals as goal

product_fits : (a b : ℕ) → a < 256 → b < 256 → Fits w32 (a * b)
product_fits a b p q = record { fits = omega (arith, byte_product a b p q) }

pub overflow_mul-result : goal.overflow_mul-result
overflow_mul-result g c =
    let xs = c.args.lanes in
    let bytes = below_from_Fits w8 xs c.fits-lanes.1 in
    rw (map-id xs) (Each2-of (λ a. a < 256) (λ b. b < 256) (λ a b. Fits w32 (a * b)) product_fits xs xs bytes bytes)

pub overflow_add-result : goal.overflow_add-result
overflow_add-result g c =
    let xs = c.args.lanes in
    let few : length xs ≤ LANES = omega (arith, c.fits-lanes.0, c.requires) in
    rw (map-id xs) (sum_fits w32 0 (zip2 (λ a b. a * b) xs xs) (sum_of_squares_fits xs few (below_from_Fits w8 xs c.fits-lanes.1)))

pub returns : goal.returns
returns g c =
    let xs = c.args.lanes in
    rw (map-id xs) (fold-sum 0 (zip2 (λ a b. a * b) xs xs) ∙ zero-add (sum_l (zip2 (λ a b. a * b) xs xs)) ∙ sum_l-squares xs)
