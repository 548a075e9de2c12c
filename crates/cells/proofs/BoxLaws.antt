-- Boxes inside a size: they are small, their places are inside, and sums of their coordinates fit.
use Rattle.std.proofs.Common.{◌≡◌, ℕ, ◌+◌, ◌/◌, ◌%◌, ◌<◌, ◌≤◌, refl, sym, subst, arith, rules}
use Rattle.std.proofs.Math.Nat.{mul-le-mul}
use Rattle.std.proofs.lemmas.Int.{ints}
use Rattle.std.specs.Prelude.{ℤ, pos, negsuc, ◌+ℤ◌, ◌-ℤ◌, IsSome, FitsSigned}
use Rattle.std.specs.Int.{w32}
use Rattle.cells.specs.declared.place.At.{At}
use Rattle.cells.specs.declared.place.Size.{Size}
use Rattle.limits.specs.declared.bounds.TheConstants.{GREATEST_AXIS}
use Rattle.cells.specs.Places.{HasAxes, IsSmall, IsInside, SumFits, cell_count, place_of, plus, minus, spot}
use Rattle.cells.specs.Boxes.{AxisHolds, HoldsBox, HasCells}
use Rattle.cells.proofs.Raster.{index_parts, index_of_spot, place_at}

-- a box of some cells inside a small size is small
pub box_small : (size : Size) (corner : At) (inner : Size) → IsSmall size → HasCells inner → HoldsBox size corner inner → IsSmall inner
box_small size corner inner small some box =
    let w : inner.w ≤ size.w = omega (arith, ints, box.x.from, box.x.to) in
    let h : inner.h ≤ size.h = omega (arith, ints, box.y.from, box.y.to) in
    let f : inner.f ≤ size.f = omega (arith, ints, box.f.from, box.f.to) in
    record {
      axes = record {
        w = (some.w, omega (arith, small.axes.w));
        h = (some.h, omega (arith, small.axes.h));
        f = (some.f, omega (arith, small.axes.f));
      };
      cells = omega (arith, small.cells, mul-le-mul w (mul-le-mul h f));
    }

-- the three counts of an index in a box
pub record IsStep (inner : Size) (i : ℕ) : Type 0 where
  pub x : i % inner.w < inner.w
  pub y : i / inner.w % inner.h < inner.h
  pub f : i / inner.w / inner.h < inner.f

pub step_of : (inner : Size) (i : ℕ) → HasCells inner → i < cell_count inner → IsStep inner i
step_of inner i some lt =
    let at = index_parts inner (place_of inner i) i (place_at inner i some.w some.h lt) in
    record {
      x = omega (arith, some.w);
      y = omega (arith, some.h);
      f = omega (arith, ints, at.f_on.is, at.f_on.below);
    }

on_box : (n : ℕ) (corner : ℤ) (len c : ℕ) → AxisHolds n corner len → c < len → (d : ℕ) × (corner +ℤ pos c ≡ pos d) × (d < n)
on_box n (pos a) len c holds lt = (a + c, refl, omega (arith, ints, holds.to))
on_box n (negsuc a) len c holds lt = absurd (omega (arith, ints, holds.from))

-- a box's place at an index is inside
pub box_inside : (size : Size) (corner : At) (inner : Size) (i : ℕ) → HoldsBox size corner inner → HasCells inner → i < cell_count inner → IsInside size (plus corner (place_of inner i))
box_inside size corner inner i box some lt =
    let step = step_of inner i some lt in
    let x = on_box size.w corner.x inner.w _ box.x step.x in
    let y = on_box size.h corner.y inner.h _ box.y step.y in
    let f = on_box size.f corner.f inner.f _ box.f step.f in
    let here : plus corner (place_of inner i) ≡ spot x.0 y.0 f.0 = λ k. record { x = x.1 k; y = y.1 k; f = f.1 k } in
    subst (IsInside size) (sym here) (subst IsSome (sym (index_of_spot size x.0 y.0 f.0 x.2 y.2 f.2)) refl)

-- its coordinates are numbers of 32 bits
pub box_sum_fits : (size : Size) (corner : At) (inner : Size) (i : ℕ) → HasAxes size → HoldsBox size corner inner → HasCells inner → i < cell_count inner → SumFits corner (place_of inner i)
box_sum_fits size corner inner i axes box some lt =
    let step = step_of inner i some lt in
    record {
      x = sum_fits size.w corner.x inner.w _ box.x axes.w.1 step.x;
      y = sum_fits size.h corner.y inner.h _ box.y axes.h.1 step.y;
      f = sum_fits size.f corner.f inner.f _ box.f axes.f.1 step.f;
    }
  where
    small : (d : ℕ) → d < GREATEST_AXIS → FitsSigned w32 (pos d)
    small d lt = search rules

    sum_fits : (n : ℕ) (z : ℤ) (len c : ℕ) → AxisHolds n z len → n ≤ GREATEST_AXIS → c < len → FitsSigned w32 (z +ℤ pos c)
    sum_fits n z len c holds le lt = let at = on_box n z len c holds lt in subst (FitsSigned w32) (sym at.1) (small at.0 (omega (arith, at.2)))

-- back from the place to the step
pub plus_minus : (p q : At) → minus (plus p q) p ≡ q
plus_minus p q = λ k. record { x = back p.x q.x k; y = back p.y q.y k; f = back p.f q.f k }
  where
    back : (a b : ℤ) → (a +ℤ b) -ℤ a ≡ b
    back a b = omega (arith, ints)

pub minus_plus : (p q step : At) → minus p q ≡ step → p ≡ plus q step
minus_plus p q step e = λ k. record { x = forth p.x q.x step.x (λ j. (e j).x) k; y = forth p.y q.y step.y (λ j. (e j).y) k; f = forth p.f q.f step.f (λ j. (e j).f) k }
  where
    forth : (a c b : ℤ) → a -ℤ c ≡ b → a ≡ c +ℤ b
    forth a c b e = omega (arith, ints)
