-- Raster order: the index of a cell, the counts of an index, and the next cell.
use Rattle.std.proofs.Common.{◌≡◌, ℕ, ◌+◌, ◌*◌, ◌/◌, ◌%◌, ◌<◌, ◌≤◌, ap, sym, ◌∙◌, subst, arith, ⊎_elim}
use Rattle.std.proofs.Math.Nat.{mul-le-mul_left}
use Rattle.std.proofs.lemmas.Bool.{cases_lt}
use Rattle.std.proofs.lemmas.Nat.{div-mul-add}
use Rattle.cells.specs.declared.place.Size.{Size}
use Rattle.cells.specs.declared.place.Axis.{Axis}
use Rattle.cells.specs.declared.place.Axis.TheVariants.{X, Y, F}
use Rattle.cells.specs.Boxes.{HasCells}
use Rattle.cells.specs.Places.{cell_count, place_of, raster_index, spot}
use Rattle.cells.proofs.BoxLaws.{step_of}
use Rattle.cells.proofs.Raster.{in_rows}
use Rattle.boxes.specs.Pairs.{AreCounts, IsPair, at_index}
use Rattle.boxes.specs.Raster.{stride}
use Rattle.boxes.specs.Walks.{IsAtIndex}
use Rattle.boxes.proofs.Cells.{counts_f, counts_x, counts_y}

pub index_below : (size : Size) (x y f : ℕ) → AreCounts size x y f → raster_index size x y f < cell_count size
index_below size x y f at = in_rows size.w (size.h * size.f) (y + size.h * f) x at.column (in_rows size.h size.f f y at.row at.frame)

-- the three counts of an index
pub record HasParts (size : Size) (i x y f : ℕ) : Type 0 where
  pub column : i % size.w ≡ x
  pub row : i / size.w % size.h ≡ y
  pub frame : i / size.w / size.h ≡ f

div_row : (w x k : ℕ) → x < w → (x + w * k) / w ≡ k
div_row w x k lt = ap (λ n. n / w) (let e : x + w * k ≡ k * w + x = omega arith in e) ∙ div-mul-add k w x lt

mod_row : (w x k : ℕ) → x < w → (x + w * k) % w ≡ x
mod_row w x k lt =
    let whole : w * ((x + w * k) / w) + (x + w * k) % w ≡ x + w * k = omega arith in
    let same : w * ((x + w * k) / w) ≡ w * k = ap (λ n. w * n) (div_row w x k lt) in
    omega arith

pub parts : (size : Size) (x y f : ℕ) → x < size.w → y < size.h → HasParts size (raster_index size x y f) x y f
parts size x y f lx ly =
    let rows : raster_index size x y f / size.w ≡ y + size.h * f = div_row size.w x (y + size.h * f) lx in
    record {
      column = mod_row size.w x (y + size.h * f) lx;
      row = ap (λ n. n % size.h) rows ∙ mod_row size.h y f ly;
      frame = ap (λ n. n / size.h) rows ∙ div_row size.h y f ly;
    }

pub parts_at : (size : Size) (i x y f : ℕ) → IsAtIndex size i x y f → HasParts size i x y f
parts_at size i x y f at = subst (λ i. HasParts size i x y f) at.index (parts size x y f at.column at.row)

-- what a list by index says of a cell, by its counts
pub at_counts : {A : Type 0} (size : Size) (g : ℕ → ℕ → ℕ → A) (x y f : ℕ) → x < size.w → y < size.h → at_index size g (raster_index size x y f) ≡ g x y f
at_counts size g x y f lx ly = let p = parts size x y f lx ly in λ k. g (p.column k) (p.row k) (p.frame k)

pub at_index_is : {A : Type 0} (size : Size) (g : ℕ → ℕ → ℕ → A) (i x y f : ℕ) → IsAtIndex size i x y f → at_index size g i ≡ g x y f
at_index_is size g i x y f at = let p = parts_at size i x y f at in λ k. g (p.column k) (p.row k) (p.frame k)

pub place_is : (size : Size) (i x y f : ℕ) → IsAtIndex size i x y f → place_of size i ≡ spot x y f
place_is size i x y f at = at_index_is size spot i x y f at

-- two cells of one index are one
pub record SameCounts (x y f a b c : ℕ) : Type 0 where
  pub x_same : x ≡ a
  pub y_same : y ≡ b
  pub f_same : f ≡ c

pub same_at : (size : Size) (i x y f a b c : ℕ) → IsAtIndex size i x y f → IsAtIndex size i a b c → SameCounts x y f a b c
same_at size i x y f a b c one other =
    let p = parts_at size i x y f one in
    let q = parts_at size i a b c other in
    record { x_same = sym p.column ∙ q.column; y_same = sym p.row ∙ q.row; f_same = sym p.frame ∙ q.frame }

pub same_counts : (size : Size) (x y f a b c : ℕ) → AreCounts size x y f → AreCounts size a b c → raster_index size x y f ≡ raster_index size a b c → SameCounts x y f a b c
same_counts size x y f a b c one other e =
    same_at size (raster_index size a b c) x y f a b c (record { column = one.column; row = one.row; index = e }) (at_own size a b c other)
  where
    at_own : (size : Size) (x y f : ℕ) → AreCounts size x y f → IsAtIndex size (raster_index size x y f) x y f
    at_own size x y f are = record { column = are.column; row = are.row; index = λ k. raster_index size x y f }

-- the counts at an index that isn't the end are those of a cell
pub counts_below : (size : Size) (i x y f : ℕ) → IsAtIndex size i x y f → i < cell_count size → AreCounts size x y f
counts_below size i x y f at below = record {
  column = at.column;
  row = at.row;
  frame = ⊎_elim (λ lt. lt)
      (λ end.
      let rows : size.h * size.f ≤ y + size.h * f = omega (arith, mul-le-mul_left size.h end) in
      absurd (omega (arith, mul-le-mul_left size.w rows, at.index)))
      (cases_lt f size.f);
}

-- the counts of an index
pub record HasCounts (size : Size) (i : ℕ) : Type 0 where
  pub counts : AreCounts size (i % size.w) (i / size.w % size.h) (i / size.w / size.h)
  pub index : raster_index size (i % size.w) (i / size.w % size.h) (i / size.w / size.h) ≡ i

pub counts_at : (size : Size) (i : ℕ) → HasCells size → i < cell_count size → HasCounts size i
counts_at size i some lt =
    let step = step_of size i some lt in
    let inner : i / size.w % size.h + size.h * (i / size.w / size.h) ≡ i / size.w = omega (arith, some.h) in
    let outer : i % size.w + size.w * (i / size.w) ≡ i = omega (arith, some.w) in
    record {
      counts = record { column = step.x; row = step.y; frame = step.f };
      index = ap (λ n. i % size.w + size.w * n) inner ∙ outer;
    }

-- a fact of the counts of each index is one of each cell
pub each_cell : (size : Size) (Holds : ℕ → ℕ → ℕ → Type 0) → ((i : ℕ) → i < cell_count size → Holds (i % size.w) (i / size.w % size.h) (i / size.w / size.h))
    → (x y f : ℕ) → AreCounts size x y f → Holds x y f
each_cell size Holds each x y f are =
    let i = raster_index size x y f in
    let is = parts size x y f are.column are.row in
    subst (λ c. Holds x y c) is.frame
    (subst (λ b. Holds x b (i / size.w / size.h)) is.row (subst (λ a. Holds a (i / size.w % size.h) (i / size.w / size.h)) is.column (each i (index_below size x y f are))))

-- the first cell of the next frame
pub frame_next : (size : Size) (x y f : ℕ) → x < size.w → y < size.h → size.w ≤ x + 1 → size.h ≤ y + 1 → raster_index size 0 0 (f + 1) ≡ raster_index size x y f + 1
frame_next size x y f lx ly ex ey =
    let rows : y + size.h * f + 1 ≡ size.h * (f + 1) = omega arith in
    let all : size.w * (y + size.h * f + 1) ≡ size.w * (size.h * (f + 1)) = ap (λ n. size.w * n) rows in
    omega arith

-- the next cell along an axis is one of the box's, so many on
pub stride_below : (size : Size) (axis : Axis) (x y f : ℕ) → IsPair size axis x y f → raster_index size x y f + stride size axis < cell_count size
stride_below size X x y f is = omega (arith, index_below size (x + 1) y f (counts_x size x y f is))
stride_below size Y x y f is = omega (arith, index_below size x (y + 1) f (counts_y size x y f is))
stride_below size F x y f is = omega (arith, index_below size x y (f + 1) (counts_f size x y f is))
