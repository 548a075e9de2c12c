-- How large the sums of blocks get.
use Rattle.std.proofs.Common.{◌≡◌, ℕ, ◌+◌, ◌*◌, ◌<◌, ◌≤◌, ◌^◌, ap, arith}
use Rattle.std.proofs.Math.Nat.{mul-le-mul, mul-le-mul_left}
use Rattle.search_squares.specs.Blocks.{block_bytes}

-- a row of a block has few bytes
pub row_short : (side k : ℕ) → 255 * block_bytes side k < 2 ^ 16 → 1 ≤ side → k * side ≤ 257
row_short side k few some =
    let more : 1 * (side * k) ≤ side * (side * k) = mul-le-mul some (omega arith) in
    omega (arith, few, more)

-- one more row: the sum is at most that of so many bytes, and those of the block are few
pub rows_small : (side k j sum long row : ℕ) → 255 * block_bytes side k < 2 ^ 16 → j < side → sum ≤ 255 * (k * side) * j → long ≡ k * side → row ≤ 255 * long
    → (sum + row ≤ 255 * (k * side) * (j + 1)) × (sum + row < 2 ^ 16)
rows_small side k j sum long row few lt small is le =
    let more : sum + row ≤ 255 * (k * side) * (j + 1) = omega (arith, ap (λ n. 255 * n) is) in
    let rows : k * side * (j + 1) ≤ k * side * side = mul-le-mul (omega arith) (omega arith) in
    (more, omega (arith, more, rows, few))

-- a block's last row is few entries from its first
pub rows_near : (side k w : ℕ) → 255 * block_bytes side k < 2 ^ 16 → 1 ≤ side → 1 ≤ k → w ≤ 4096 → w * side < 2 ^ 32
rows_near side k w few some samples wide =
    let short : side ≤ 257 = omega (arith, row_short side k few some, mul-le-mul_left side samples) in
    let most : w * side ≤ 4096 * 257 = mul-le-mul wide short in
    omega (arith, most)
