-- Walks over the counts of indices, on and back.
use Rattle.std.proofs.Common.{◌≡◌, ℕ, zero, suc, ◌+◌, ◌-◌, ◌*◌, ◌<◌, ◌≤◌, ap, sym, ◌∙◌, arith, map, [], ◌∷◌, ◌++◌}
use Rattle.std.specs.Prelude.{reverse}
use Rattle.std.specs.List.{range_with_len}
use Rattle.std.proofs.lemmas.Grind.{reverse_onto}
use Rattle.cells.specs.declared.place.Size.{Size}
use Rattle.cells.specs.Places.{raster_index}
use Rattle.boxes.proofs.Indices.{frame_next}

-- an index that isn't 0, at the first cell of a frame, has a frame before
pub some_frame : (size : Size) (x y f : ℕ) → 1 ≤ raster_index size x y f → x ≤ 0 → y ≤ 0 → 1 ≤ f
some_frame size x y (suc f) later ex ey = omega arith
some_frame size x y zero later ex ey =
    let none : y + size.h * 0 ≡ 0 = omega (arith, ey) in
    let all : size.w * (y + size.h * 0) ≡ 0 = ap (λ n. size.w * n) none ∙ omega arith in
    absurd (omega (arith, later, ex, all))

pub row_before : (size : Size) (y f : ℕ) → 1 ≤ size.w → 1 ≤ y → raster_index size (size.w - 1) (y - 1) f + 1 ≡ raster_index size 0 y f
row_before size y f w some =
    let rows : y - 1 + size.h * f + 1 ≡ y + size.h * f = omega (arith, some) in
    let all : size.w * (y - 1 + size.h * f + 1) ≡ size.w * (y + size.h * f) = ap (λ n. size.w * n) rows in
    omega (arith, w, all)

pub frame_before : (size : Size) (x y f : ℕ) → 1 ≤ size.w → 1 ≤ size.h → 1 ≤ f → x ≤ 0 → y ≤ 0
    → raster_index size (size.w - 1) (size.h - 1) (f - 1) + 1 ≡ raster_index size x y f
frame_before size x y f w h some ex ey =
    let on_x : 0 ≡ x = omega (arith, ex) in
    let on_y : 0 ≡ y = omega (arith, ey) in
    let on_f : f - 1 + 1 ≡ f = omega (arith, some) in
    sym (frame_next size (size.w - 1) (size.h - 1) (f - 1) (omega (arith, w)) (omega (arith, h)) (omega arith) (omega arith))
    ∙ (λ k. raster_index size (on_x k) (on_y k) (on_f k))

-- the entries from one before on, from their end
pub one_before : (g : ℕ → ℕ) (n i : ℕ) → i < n → reverse (map g (range_with_len (n - (i + 1)) (i + 1))) ≡ reverse (map g (range_with_len (n - i) i)) ++ g (n - (i + 1)) ∷ []
one_before g n i less =
    let next : n - (i + 1) + 1 ≡ n - i = omega (arith, less) in
    ap (λ m. reverse (map g (range_with_len (n - (i + 1)) m))) (let e : i + 1 ≡ suc i = omega arith in e)
    ∙ reverse_onto (map g (range_with_len (n - (i + 1) + 1) i)) (g (n - (i + 1))) []
    ∙ ap (λ m. reverse (map g (range_with_len m i)) ++ g (n - (i + 1)) ∷ []) next
