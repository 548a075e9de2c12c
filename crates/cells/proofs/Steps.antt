-- Steps along a row: the places of a box by their indices.
use Rattle.std.proofs.Common.{◌≡◌, ℕ, ◌+◌, ◌*◌, ◌/◌, ◌%◌, ◌<◌, ◌≤◌, ap, ◌∙◌, arith}
use Rattle.std.proofs.Math.Nat.{mul-le-mul_left}
use Rattle.std.proofs.lemmas.Int.{ints}
use Rattle.std.specs.Prelude.{ℤ, pos, ◌+ℤ◌}
use Rattle.cells.specs.declared.place.At.{At}
use Rattle.cells.specs.declared.place.Size.{Size}
use Rattle.cells.specs.Places.{cell_count, place_of, plus, spot}
use Rattle.cells.proofs.Raster.{below_of_div, row_split}

pub plus_assoc : (p q r : At) → plus p (plus q r) ≡ plus (plus p q) r
plus_assoc p q r = λ k. record { x = same p.x q.x r.x k; y = same p.y q.y r.y k; f = same p.f q.f r.f k }
  where
    same : (a b c : ℤ) → a +ℤ (b +ℤ c) ≡ (a +ℤ b) +ℤ c
    same a b c = omega (arith, ints)

-- the place some indices on in one row
pub place_along : (size : Size) (i n : ℕ) → i % size.w + n < size.w → place_of size (i + n) ≡ plus (place_of size i) (spot n 0 0)
place_along size i n lt = λ k. record { x = x k; y = y k; f = f k }
  where
    same : ((i + n) % size.w ≡ i % size.w + n) × ((i + n) / size.w ≡ i / size.w)
    same = row_split size.w ((i + n) % size.w) (i % size.w + n) ((i + n) / size.w) (i / size.w) (omega arith) lt (omega arith)

    stays : (z : ℤ) → z ≡ z +ℤ pos 0
    stays z = omega (arith, ints)

    x : pos ((i + n) % size.w) ≡ pos (i % size.w) +ℤ pos n
    x = omega (arith, ints, same.0)

    y : pos ((i + n) / size.w % size.h) ≡ pos (i / size.w % size.h) +ℤ pos 0
    y = ap (λ row. pos (row % size.h)) same.1 ∙ stays (pos (i / size.w % size.h))

    f : pos ((i + n) / size.w / size.h) ≡ pos (i / size.w / size.h) +ℤ pos 0
    f = ap (λ row. pos (row / size.h)) same.1 ∙ stays (pos (i / size.w / size.h))

-- a run within a row ends within the box
pub row_end : (size : Size) (i n : ℕ) → 1 ≤ size.w → i < cell_count size → i % size.w + n ≤ size.w → i + n ≤ cell_count size
row_end size i n some lt fits =
    let row : i / size.w < size.h * size.f = below_of_div size.w (size.h * size.f) i some lt in
    omega (arith, some, mul-le-mul_left size.w (let more : i / size.w + 1 ≤ size.h * size.f = omega (arith, row) in more))
