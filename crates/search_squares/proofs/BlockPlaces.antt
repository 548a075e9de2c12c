-- Where the cells of a block are.
use Rattle.std.proofs.Common.{◌≡◌, ℕ, ◌+◌, ◌*◌, ◌/◌, ◌%◌, ◌<◌, ◌≤◌, ap, sym, ◌∙◌, subst, arith}
use Rattle.std.proofs.Math.Nat.{mul-le-mul}
use Rattle.std.proofs.lemmas.Int.{ints}
use Rattle.std.proofs.lemmas.Nat.{div-mul-add, mod-mul-add}
use Rattle.std.specs.Prelude.{ℤ, pos, ◌+ℤ◌}
use Rattle.cells.specs.declared.place.At.{At}
use Rattle.cells.specs.declared.place.Box3.{Box3}
use Rattle.cells.specs.declared.place.Size.{Size}
use Rattle.cells.specs.Boxes.{HasCells, HoldsBox}
use Rattle.cells.specs.Cells.{HasRun}
use Rattle.cells.specs.Places.{cell_count, place_of, plus, spot}
use Rattle.cells.proofs.BoxLaws.{step_of}
use Rattle.map_canvas.specs.Canvases.{CanvasState, IsCanvas}
use Rattle.match_error.proofs.RunLists.{run_of_picture}
use Rattle.search_squares.specs.Gathered.{HasBlockRoom}

-- a place so many rows down
pub down : (corner : At) (x y j f : ℕ) → plus (plus corner (spot x y f)) (spot 0 j 0) ≡ plus corner (spot x (y + j) f)
down corner x y j f = λ k. record { x = stay corner.x x k; y = further corner.y y j k; f = stay corner.f f k }
  where
    further : (z : ℤ) (n m : ℕ) → (z +ℤ pos n) +ℤ pos m ≡ z +ℤ pos (n + m)
    further z n m = omega (arith, ints)

    stay : (z : ℤ) (n : ℕ) → (z +ℤ pos n) +ℤ pos 0 ≡ z +ℤ pos n
    stay z n = omega (arith, ints)

-- a step from another
pub on_from : (x y f i j : ℕ) → plus (spot x y f) (spot i j 0) ≡ spot (x + i) (y + j) f
on_from x y f i j = λ k. record { x = further x i k; y = further y j k; f = stay f k }
  where
    further : (n m : ℕ) → pos n +ℤ pos m ≡ pos (n + m)
    further n m = omega (arith, ints)

    stay : (n : ℕ) → pos n +ℤ pos 0 ≡ pos n
    stay n = omega (arith, ints)

-- the place of a block's cell, by its index
pub place_in_block : (size : Size) (i side x y : ℕ) → HasBlockRoom size i side → x < side → y < side → place_of size (i + size.w * y + x) ≡ plus (place_of size i) (spot x y 0)
place_in_block size i side x y room lx ly =
    (λ k. spot (column k) ((ap (λ r. r % size.h) row ∙ row_in) k) ((ap (λ r. r / size.h) row ∙ frame) k))
    ∙ sym (on_from (i % size.w) (i / size.w % size.h) (i / size.w / size.h) x y)
  where
    rows : i + size.w * y + x ≡ (i / size.w + y) * size.w + (i % size.w + x)
    rows = omega arith

    fits : i % size.w + x < size.w
    fits = omega (arith, room.columns)

    column : (i + size.w * y + x) % size.w ≡ i % size.w + x
    column = ap (λ n. n % size.w) rows ∙ mod-mul-add (i / size.w + y) size.w (i % size.w + x) fits

    row : (i + size.w * y + x) / size.w ≡ i / size.w + y
    row = ap (λ n. n / size.w) rows ∙ div-mul-add (i / size.w + y) size.w (i % size.w + x) fits

    frames : i / size.w + y ≡ i / size.w / size.h * size.h + (i / size.w % size.h + y)
    frames = omega arith

    fits_down : i / size.w % size.h + y < size.h
    fits_down = omega (arith, room.rows)

    row_in : (i / size.w + y) % size.h ≡ i / size.w % size.h + y
    row_in = ap (λ n. n % size.h) frames ∙ mod-mul-add (i / size.w / size.h) size.h (i / size.w % size.h + y) fits_down

    frame : (i / size.w + y) / size.h ≡ i / size.w / size.h
    frame = ap (λ n. n / size.h) frames ∙ div-mul-add (i / size.w / size.h) size.h (i / size.w % size.h + y) fits_down

-- the rows of a block are among the cells of the box
pub block_rows : (size : Size) (i side j : ℕ) → HasCells size → i < cell_count size → HasBlockRoom size i side → j < side → i + size.w * j + side ≤ cell_count size
block_rows size i side j some lt room lj =
    let step = step_of size i some lt in
    let frames : size.h * (i / size.w / size.h + 1) ≤ size.h * size.f = mul-le-mul (omega arith) (omega (arith, step.f)) in
    let down : i / size.w + j + 1 ≤ size.h * size.f = omega (arith, frames, room.rows) in
    let all : size.w * (i / size.w + j + 1) ≤ size.w * (size.h * size.f) = mul-le-mul (omega arith) down in
    omega (arith, all, room.columns)

-- a row of a block in the picture
pub picture_row : (canvas : CanvasState) (rect : Box3) (i side j : ℕ) → IsCanvas canvas → HoldsBox canvas.map.size rect.corner rect.size → HasCells rect.size → i < cell_count rect.size → HasBlockRoom rect.size i side → j < side
    → HasRun canvas.picture (plus (plus rect.corner (place_of rect.size i)) (spot 0 j 0)) side
picture_row canvas rect i side j is inside some lt room lj =
    let x = i % rect.size.w in
    let y = i / rect.size.w % rect.size.h in
    let f = i / rect.size.w / rect.size.h in
    subst (λ p. HasRun canvas.picture p side) (sym (down rect.corner x y j f))
    (run_of_picture canvas rect x side (y + j) f is inside (omega arith) (record { columns_in = room.columns; row_in = omega (arith, room.rows); frame_in = (step_of rect.size i some lt).f }))
