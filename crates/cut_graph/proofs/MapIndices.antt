-- The indices of the cells of a box in the map that holds it.
use Rattle.std.proofs.Common.{◌≡◌, ℕ, ◌+◌, ◌*◌, ◌<◌, ap, ◌∙◌, subst, arith}
use Rattle.std.proofs.lemmas.Int.{ints}
use Rattle.std.specs.Prelude.{ℤ, pos, ◌+ℤ◌, Some, IsSome}
use Rattle.cells.specs.declared.place.At.{At}
use Rattle.cells.specs.declared.place.Axis.{Axis}
use Rattle.cells.specs.declared.place.Axis.TheVariants.{X, Y, F}
use Rattle.cells.specs.declared.place.Box3.{Box3}
use Rattle.cells.specs.declared.place.Size.{Size}
use Rattle.cells.specs.Boxes.{AxisHolds, HoldsBox, cell_in}
use Rattle.cells.specs.Neighbours.{unit_step}
use Rattle.cells.specs.Places.{IsInside, index_in, on_axis, plus, spot}
use Rattle.cells.proofs.BoxTests.{inside_of, of_inside, on_axis_bounds, on_axis_some}
use Rattle.cells.proofs.Raster.{IsAt, index_of_spot, index_parts}
use Rattle.boxes.specs.Pairs.{AreCounts, IsPair}
use Rattle.boxes.specs.Raster.{stride}
use Rattle.cut_graph.proofs.Laying.{behind_of}

-- the cell of a box is a cell of what holds it
on_run : (n len c : ℕ) (corner : ℤ) → AxisHolds n corner len → c < len → IsSome (on_axis n (corner +ℤ pos c))
on_run n len c corner holds lt = on_axis_some n (corner +ℤ pos c) (omega (arith, ints, holds.from)) (omega (arith, ints, holds.to))

pub cell_in_map : (size : Size) (rect : Box3) (x y f : ℕ) → HoldsBox size rect.corner rect.size → AreCounts rect.size x y f → IsInside size (cell_in rect x y f)
cell_in_map size rect x y f holds at = inside_of size (cell_in rect x y f) (record {
  x = on_run size.w rect.size.w x rect.corner.x holds.x at.column;
  y = on_run size.h rect.size.h y rect.corner.y holds.y at.row;
  f = on_run size.f rect.size.f f rect.corner.f holds.f at.frame;
})

-- the next place along an axis, where it is inside too, comes a stride later
pub next_index : (size : Size) (p : At) (axis : Axis) (k : ℕ) → index_in size p ≡ Some k → IsInside size (plus p (unit_step axis)) → index_in size (plus p (unit_step axis)) ≡ Some (k + stride size axis)
next_index size p axis k e inside = by axis inside
  where
    at : IsAt size p k
    at = index_parts size p k e

    ahead : (z : ℤ) (c : ℕ) → z ≡ pos c → z +ℤ pos 1 ≡ pos (c + 1)
    ahead z c is = omega (arith, ints, is)

    same : (z : ℤ) (c : ℕ) → z ≡ pos c → z +ℤ pos 0 ≡ pos c
    same z c is = omega (arith, ints, is)

    below : (n c : ℕ) (z : ℤ) → z ≡ pos c → IsSome (on_axis n (z +ℤ pos 1)) → c + 1 < n
    below n c z is on = omega (arith, ints, is, on_axis_bounds n (z +ℤ pos 1) on)

    by : (axis : Axis) → IsInside size (plus p (unit_step axis)) → index_in size (plus p (unit_step axis)) ≡ Some (k + stride size axis)
    by X inside =
        let later : at.x + 1 + size.w * (at.y + size.h * at.f) ≡ k + 1 = omega (arith, at.index) in
        let place : plus p (unit_step X) ≡ spot (at.x + 1) at.y at.f = (λ i. record { x = ahead p.x at.x at.x_on.is i; y = same p.y at.y at.y_on.is i; f = same p.f at.f at.f_on.is i }) in
        ap (index_in size) place ∙ index_of_spot size (at.x + 1) at.y at.f (below size.w at.x p.x at.x_on.is (of_inside size _ inside).x) at.y_on.below at.f_on.below ∙ ap Some later
    by Y inside =
        let later : at.x + size.w * (at.y + 1 + size.h * at.f) ≡ k + size.w = omega (arith, at.index) in
        let place : plus p (unit_step Y) ≡ spot at.x (at.y + 1) at.f = (λ i. record { x = same p.x at.x at.x_on.is i; y = ahead p.y at.y at.y_on.is i; f = same p.f at.f at.f_on.is i }) in
        ap (index_in size) place ∙ index_of_spot size at.x (at.y + 1) at.f at.x_on.below (below size.h at.y p.y at.y_on.is (of_inside size _ inside).y) at.f_on.below ∙ ap Some later
    by F inside =
        let later : at.x + size.w * (at.y + size.h * (at.f + 1)) ≡ k + size.w * size.h = omega (arith, at.index) in
        let place : plus p (unit_step F) ≡ spot at.x at.y (at.f + 1) = (λ i. record { x = same p.x at.x at.x_on.is i; y = same p.y at.y at.y_on.is i; f = ahead p.f at.f at.f_on.is i }) in
        ap (index_in size) place ∙ index_of_spot size at.x at.y (at.f + 1) at.x_on.below at.y_on.below (below size.f at.f p.f at.f_on.is (of_inside size _ inside).f) ∙ ap Some later

-- so does the second cell of a pair of a box
pub second_index : (size : Size) (rect : Box3) (axis : Axis) (x y f k : ℕ) → HoldsBox size rect.corner rect.size → IsPair rect.size axis x y f
    → index_in size (cell_in rect x y f) ≡ Some k → index_in size (plus (cell_in rect x y f) (unit_step axis)) ≡ Some (k + stride size axis)
second_index size rect axis x y f k holds is e =
    let next = behind_of rect axis x y f is in
    next_index size (cell_in rect x y f) axis k e (subst (IsInside size) next.place (cell_in_map size rect next.a next.b next.c holds next.counts))
