-- The cells of a box at counts from its corner, and the next one along an axis.
use Rattle.std.proofs.Common.{◌≡◌, ℕ, suc, ◌+◌, ◌<◌, ◌≤◌, refl, ap, ◌∙◌, arith, rules, Bool, true, false}
use Rattle.std.proofs.lemmas.Int.{ints}
use Rattle.std.specs.Prelude.{ℤ, pos, negsuc, ◌+ℤ◌, Some, None, is_some, if◌then◌else◌, nat_lt, FitsSigned}
use Rattle.std.specs.Int.{w32}
use borrow.Author.Tests.{ltb-true}
use Rattle.cells.specs.declared.place.At.{At}
use Rattle.cells.specs.declared.place.Axis.{Axis}
use Rattle.cells.specs.declared.place.Axis.TheVariants.{X, Y, F}
use Rattle.cells.specs.declared.place.Box3.{Box3}
use Rattle.cells.specs.declared.place.Size.{Size}
use Rattle.cells.specs.Boxes.{AxisHolds, HoldsBox, IsInBox, cell_in}
use Rattle.cells.specs.Neighbours.{unit_step}
use Rattle.cells.specs.Places.{SumFits, index_in, index_on_axes, minus, plus, spot}
use Rattle.cells.proofs.BoxLaws.{minus_plus, plus_minus}
use Rattle.cells.proofs.Raster.{has_index, index_of_spot, index_parts, on_axis_in}
use Rattle.boxes.specs.Pairs.{AreCounts, IsPair, has_next, in_box}
use Rattle.boxes.specs.Raster.{largest}
use Rattle.limits.specs.declared.bounds.TheConstants.{GREATEST_AXIS}

-- the sum of a corner and a count is a number of 32 bits
sum_near : (z : ℤ) (len c : ℕ) → AxisHolds GREATEST_AXIS z len → c < len → FitsSigned w32 (z +ℤ pos c)
sum_near (pos a) len c box lt = small (a + c) (omega (arith, ints, box.to))
  where
    small : (d : ℕ) → d ≤ GREATEST_AXIS → FitsSigned w32 (pos d)
    small d le = search rules
sum_near (negsuc a) len c box lt = absurd (omega (arith, ints, box.from))

pub cell_fits : (rect : Box3) (x y f : ℕ) → HoldsBox largest rect.corner rect.size → AreCounts rect.size x y f → SumFits rect.corner (spot x y f)
cell_fits rect x y f box are = record {
  x = sum_near rect.corner.x rect.size.w x box.x are.column;
  y = sum_near rect.corner.y rect.size.h y box.y are.row;
  f = sum_near rect.corner.f rect.size.f f box.f are.frame;
}

-- the cell of a box at given counts is one of the box's, and each place of the box is one
pub cell_inside : (rect : Box3) (x y f : ℕ) → AreCounts rect.size x y f → IsInBox rect (cell_in rect x y f)
cell_inside rect x y f are = ap is_some (ap (index_in rect.size) (plus_minus rect.corner (spot x y f)) ∙ index_of_spot rect.size x y f are.column are.row are.frame)

pub record IsCellOf (rect : Box3) (p : At) : Type 0 where
  pub x : ℕ
  pub y : ℕ
  pub f : ℕ
  pub counts : AreCounts rect.size x y f
  pub cell : p ≡ cell_in rect x y f

pub cell_of : (rect : Box3) (p : At) → IsInBox rect p → IsCellOf rect p
cell_of rect p inside =
    let at = index_parts rect.size (minus p rect.corner) _ (has_index (index_in rect.size (minus p rect.corner)) 0 inside) in
    record {
      x = at.x;
      y = at.y;
      f = at.f;
      counts = record { column = at.x_on.below; row = at.y_on.below; frame = at.f_on.below };
      cell = minus_plus p rect.corner (spot at.x at.y at.f) (λ k. record { x = at.x_on.is k; y = at.y_on.is k; f = at.f_on.is k });
    }

-- one step on, and none
one_on : (z : ℤ) (n : ℕ) → (z +ℤ pos n) +ℤ pos 1 ≡ z +ℤ pos (n + 1)
one_on z n = omega (arith, ints)

none_on : (z : ℤ) (n : ℕ) → (z +ℤ pos n) +ℤ pos 0 ≡ z +ℤ pos n
none_on z n = omega (arith, ints)

-- the next cell along each axis
pub next_x : (rect : Box3) (x y f : ℕ) → plus (cell_in rect x y f) (unit_step X) ≡ cell_in rect (x + 1) y f
next_x rect x y f = λ k. record { x = one_on rect.corner.x x k; y = none_on rect.corner.y y k; f = none_on rect.corner.f f k }

pub next_y : (rect : Box3) (x y f : ℕ) → plus (cell_in rect x y f) (unit_step Y) ≡ cell_in rect x (y + 1) f
next_y rect x y f = λ k. record { x = none_on rect.corner.x x k; y = one_on rect.corner.y y k; f = none_on rect.corner.f f k }

pub next_f : (rect : Box3) (x y f : ℕ) → plus (cell_in rect x y f) (unit_step F) ≡ cell_in rect x y (f + 1)
next_f rect x y f = λ k. record { x = none_on rect.corner.x x k; y = none_on rect.corner.y y k; f = one_on rect.corner.f f k }

-- the same where the count is a successor
one_suc : (z : ℤ) (n : ℕ) → (z +ℤ pos n) +ℤ pos 1 ≡ z +ℤ pos (suc n)
one_suc z n = omega (arith, ints)

pub next_suc_x : (rect : Box3) (x y f : ℕ) → plus (cell_in rect x y f) (unit_step X) ≡ cell_in rect (suc x) y f
next_suc_x rect x y f = λ k. record { x = one_suc rect.corner.x x k; y = none_on rect.corner.y y k; f = none_on rect.corner.f f k }

pub next_suc_y : (rect : Box3) (x y f : ℕ) → plus (cell_in rect x y f) (unit_step Y) ≡ cell_in rect x (suc y) f
next_suc_y rect x y f = λ k. record { x = none_on rect.corner.x x k; y = one_suc rect.corner.y y k; f = none_on rect.corner.f f k }

pub next_suc_f : (rect : Box3) (x y f : ℕ) → plus (cell_in rect x y f) (unit_step F) ≡ cell_in rect x y (suc f)
next_suc_f rect x y f = λ k. record { x = none_on rect.corner.x x k; y = none_on rect.corner.y y k; f = one_suc rect.corner.f f k }

-- the cell at the next counts along an axis
abbrev pub next_in : Box3 → Axis → ℕ → ℕ → ℕ → At
next_in rect X x y f = cell_in rect (x + 1) y f
next_in rect Y x y f = cell_in rect x (y + 1) f
next_in rect F x y f = cell_in rect x y (f + 1)

pub next_is : (rect : Box3) (axis : Axis) (x y f : ℕ) → plus (cell_in rect x y f) (unit_step axis) ≡ next_in rect axis x y f
next_is rect X x y f = next_x rect x y f
next_is rect Y x y f = next_y rect x y f
next_is rect F x y f = next_f rect x y f

-- the box has the place one step on where it has a next cell
pub next_in_box : (rect : Box3) (axis : Axis) (x y f : ℕ) → AreCounts rect.size x y f → in_box rect (plus (cell_in rect x y f) (unit_step axis)) ≡ has_next rect.size axis x y f
next_in_box rect axis x y f at = ap (in_box rect) (next_is rect axis x y f) ∙ by axis
  where
    in_x : (b : Bool) → is_some (index_on_axes rect.size (if b then Some (x + 1) else None) (Some y) (Some f)) ≡ b
    in_x true = refl
    in_x false = refl

    in_y : (b : Bool) → is_some (index_on_axes rect.size (Some x) (if b then Some (y + 1) else None) (Some f)) ≡ b
    in_y true = refl
    in_y false = refl

    in_f : (b : Bool) → is_some (index_on_axes rect.size (Some x) (Some y) (if b then Some (f + 1) else None)) ≡ b
    in_f true = refl
    in_f false = refl

    by : (axis : Axis) → in_box rect (next_in rect axis x y f) ≡ has_next rect.size axis x y f
    by X =
        ap (λ p. is_some (index_in rect.size p)) (plus_minus rect.corner (spot (x + 1) y f))
        ∙ (λ k. is_some (index_on_axes rect.size (if nat_lt (x + 1) rect.size.w then Some (x + 1) else None) (on_axis_in rect.size.h y at.row k) (on_axis_in rect.size.f f at.frame k)))
        ∙ in_x (nat_lt (x + 1) rect.size.w)
    by Y =
        ap (λ p. is_some (index_in rect.size p)) (plus_minus rect.corner (spot x (y + 1) f))
        ∙ (λ k. is_some (index_on_axes rect.size (on_axis_in rect.size.w x at.column k) (if nat_lt (y + 1) rect.size.h then Some (y + 1) else None) (on_axis_in rect.size.f f at.frame k)))
        ∙ in_y (nat_lt (y + 1) rect.size.h)
    by F =
        ap (λ p. is_some (index_in rect.size p)) (plus_minus rect.corner (spot x y (f + 1)))
        ∙ (λ k. is_some (index_on_axes rect.size (on_axis_in rect.size.w x at.column k) (on_axis_in rect.size.h y at.row k) (if nat_lt (f + 1) rect.size.f then Some (f + 1) else None)))
        ∙ in_f (nat_lt (f + 1) rect.size.f)

pub next_inside : (rect : Box3) (axis : Axis) (x y f : ℕ) → IsPair rect.size axis x y f → IsInBox rect (plus (cell_in rect x y f) (unit_step axis))
next_inside rect axis x y f pair = next_in_box rect axis x y f pair.counts ∙ pair.next

-- the counts of a next cell are those of a cell
pub counts_x : (size : Size) (x y f : ℕ) → IsPair size X x y f → AreCounts size (x + 1) y f
counts_x size x y f pair = record { column = ltb-true (x + 1) size.w pair.next; row = pair.counts.row; frame = pair.counts.frame }

pub counts_y : (size : Size) (x y f : ℕ) → IsPair size Y x y f → AreCounts size x (y + 1) f
counts_y size x y f pair = record { column = pair.counts.column; row = ltb-true (y + 1) size.h pair.next; frame = pair.counts.frame }

pub counts_f : (size : Size) (x y f : ℕ) → IsPair size F x y f → AreCounts size x y (f + 1)
counts_f size x y f pair = record { column = pair.counts.column; row = pair.counts.row; frame = ltb-true (f + 1) size.f pair.next }
