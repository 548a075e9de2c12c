-- The cells of a row of a box.
use Rattle.std.proofs.Common.{◌≡◌, ℕ, ◌+◌, ◌-◌, ◌*◌, ◌/◌, ◌%◌, ◌<◌, ◌≤◌, ap, ◌∙◌, arith}
use Rattle.std.proofs.Math.Nat.{mul-le-mul_left}
use Rattle.cells.specs.declared.place.Size.{Size}
use Rattle.cells.specs.Places.{cell_count}
use Rattle.boxes.specs.Walks.{IsAtIndex}
use Rattle.cut_check.specs.Steps.{IsRow}

-- they end where the next row begins, or the box
pub row_ends : (size : Size) (row : ℕ) → IsRow size row → size.w * row + size.w ≤ cell_count size
row_ends size row is = omega (arith, mul-le-mul_left size.w (let le : row + 1 ≤ size.h * size.f = omega (arith, is.1) in le))

-- the counts of one by its index
pub row_cell : (size : Size) (row i : ℕ) → IsRow size row → size.w * row ≤ i → i < size.w * row + size.w
    → IsAtIndex size i (i - size.w * row) (row % size.h) (row / size.h)
row_cell size row i is from end =
    let rows : row % size.h + size.h * (row / size.h) ≡ row = omega (arith, is.0.h) in
    record {
      column = omega (arith, from, end);
      row = omega (arith, is.0.h);
      index = ap (λ n. i - size.w * row + size.w * n) rows ∙ omega (arith, from);
    }
