-- What tests on each axis tell of a box.
use Rattle.std.proofs.Common.{◌≡◌, ℕ, ◌+◌, ◌-◌, ◌<◌, ◌≤◌, refl, sym, subst, arith}
use Rattle.std.proofs.lemmas.Int.{ints}
use Rattle.std.specs.Prelude.{ℤ, pos, negsuc, ◌+ℤ◌, ◌≤ℤ◌, ◌<ℤ◌, Option, Some, None, IsSome, unwrap_or}
use mathlib.Core.Bool.{false≢true}
use Rattle.cells.specs.declared.place.At.{At}
use Rattle.cells.specs.declared.place.Box3.{Box3}
use Rattle.cells.specs.declared.place.Size.{Size}
use Rattle.cells.specs.Places.{IsInside, index_on_axes, index_in, on_axis, place_of, plus, minus, spot}
use Rattle.cells.specs.Boxes.{AxisHolds, HasCells, HoldsBox, HoldsEach, IsInBox}
use Rattle.cells.proofs.Raster.{OnAxis, has_index, index_below, index_of_spot, index_parts, on_axis_in, on_axis_is, one_place, place_at}
use Rattle.cells.proofs.BoxLaws.{box_inside, minus_plus, plus_minus}

-- a coordinate is on its axis where it is at least 0 and below the axis
pub on_axis_some : (n : ℕ) (z : ℤ) → pos 0 ≤ℤ z → z <ℤ pos n → IsSome (on_axis n z)
on_axis_some n (pos c) from below = subst IsSome (sym (on_axis_in n c (omega (arith, ints)))) refl
on_axis_some n (negsuc c) from below = absurd (omega (arith, ints))

pub on_axis_known : (n : ℕ) (z : ℤ) → IsSome (on_axis n z) → OnAxis n z (unwrap_or (on_axis n z) 0)
on_axis_known n z some = on_axis_is n z (unwrap_or (on_axis n z) 0) (has_index (on_axis n z) 0 some)

pub on_axis_bounds : (n : ℕ) (z : ℤ) → IsSome (on_axis n z) → (pos 0 ≤ℤ z) × (z <ℤ pos n)
on_axis_bounds n z some = let on = on_axis_known n z some in (omega (arith, ints, on.is), omega (arith, ints, on.is, on.below))

-- a place is inside where each coordinate is on its axis
pub record OnAxes (size : Size) (p : At) : Type 0 where
  pub x : IsSome (on_axis size.w p.x)
  pub y : IsSome (on_axis size.h p.y)
  pub f : IsSome (on_axis size.f p.f)

pub inside_of : (size : Size) (p : At) → OnAxes size p → IsInside size p
inside_of size p on = by (on_axis size.w p.x) (on_axis size.h p.y) (on_axis size.f p.f) on.x on.y on.f
  where
    by : (x y f : Option ℕ) → IsSome x → IsSome y → IsSome f → IsSome (index_on_axes size x y f)
    by None y f ix iy if' = absurd (false≢true ix)
    by (Some x) None f ix iy if' = absurd (false≢true iy)
    by (Some x) (Some y) None ix iy if' = absurd (false≢true if')
    by (Some x) (Some y) (Some f) ix iy if' = refl

pub of_inside : (size : Size) (p : At) → IsInside size p → OnAxes size p
of_inside size p inside =
    let at = index_parts size p _ (has_index (index_in size p) 0 inside) in
    record {
      x = on_axis_some size.w p.x (omega (arith, ints, at.x_on.is)) (omega (arith, ints, at.x_on.is, at.x_on.below));
      y = on_axis_some size.h p.y (omega (arith, ints, at.y_on.is)) (omega (arith, ints, at.y_on.is, at.y_on.below));
      f = on_axis_some size.f p.f (omega (arith, ints, at.f_on.is)) (omega (arith, ints, at.f_on.is, at.f_on.below));
    }

-- a place of a box has a cell beside it
pub box_has_cells : (rect : Box3) (p : At) → IsInBox rect p → HasCells rect.size
box_has_cells rect p has =
    let at = index_parts rect.size (minus p rect.corner) _ (has_index (index_in rect.size (minus p rect.corner)) 0 has) in
    record { w = omega (arith, at.x_on.below); h = omega (arith, at.y_on.below); f = omega (arith, at.f_on.below) }

-- a box that lies inside on each axis has its places inside
pub each_of_axes : (size : Size) (rect : Box3) → HoldsBox size rect.corner rect.size → HoldsEach size rect
each_of_axes size rect holds p has =
    let some = box_has_cells rect p has in
    let i = unwrap_or (index_in rect.size (minus p rect.corner)) 0 in
    let at : index_in rect.size (minus p rect.corner) ≡ Some i = has_index (index_in rect.size (minus p rect.corner)) 0 has in
    let below = index_below rect.size (minus p rect.corner) i at in
    let step : minus p rect.corner ≡ place_of rect.size i = one_place rect.size _ _ i at (place_at rect.size i some.w some.h below) in
    subst (IsInside size) (sym (minus_plus p rect.corner (place_of rect.size i) step)) (box_inside size rect.corner rect.size i holds some below)

-- and a box of some cells whose places are inside lies inside on each axis
pub axes_of_each : (size : Size) (rect : Box3) → HasCells rect.size → HoldsEach size rect → HoldsBox size rect.corner rect.size
axes_of_each size rect some each =
    let first = inside_at 0 0 0 some.w some.h some.f in
    let w = last rect.size.w some.w in
    let h = last rect.size.h some.h in
    let f = last rect.size.f some.f in
    let end = inside_at w.0 h.0 f.0 (omega (arith, w.1)) (omega (arith, h.1)) (omega (arith, f.1)) in
    record {
      x = axis size.w rect.corner.x rect.size.w w.0 w.1 first.x end.x;
      y = axis size.h rect.corner.y rect.size.h h.0 h.1 first.y end.y;
      f = axis size.f rect.corner.f rect.size.f f.0 f.1 first.f end.f;
    }
  where
    last : (n : ℕ) → 1 ≤ n → (m : ℕ) × (n ≡ m + 1)
    last n some' = (n - 1, omega arith)

    inside_at : (x y f : ℕ) → x < rect.size.w → y < rect.size.h → f < rect.size.f → OnAxes size (plus rect.corner (spot x y f))
    inside_at x y f lx ly lf =
        of_inside size (plus rect.corner (spot x y f))
        (each (plus rect.corner (spot x y f))
        (subst (IsInside rect.size) (sym (plus_minus rect.corner (spot x y f))) (subst IsSome (sym (index_of_spot rect.size x y f lx ly lf)) refl)))

    axis : (n : ℕ) (corner : ℤ) (len m : ℕ) → len ≡ m + 1 → IsSome (on_axis n (corner +ℤ pos 0)) → IsSome (on_axis n (corner +ℤ pos m)) → AxisHolds n corner len
    axis n corner len m long start stop =
        let from = on_axis_bounds n (corner +ℤ pos 0) start in
        let to = on_axis_bounds n (corner +ℤ pos m) stop in
        record { from = omega (arith, ints, from.0); to = omega (arith, ints, to.1, long) }
