-- The cells of a box, and its window sum as a sum over the output.
use Rattle.std.proofs.Common.{◌≡◌, ℕ, ◌+◌, ◌<◌, ◌≤◌, refl, ap, ◌∙◌, arith, ◌⊎◌, inl, inr, ⊎_elim}
use Rattle.std.proofs.lemmas.Int.{ints}
use Rattle.std.specs.Prelude.{ℤ, pos, negsuc, ◌+ℤ◌, ◌-ℤ◌, ◌≤ℤ◌, ◌<ℤ◌, Option, IsSome}
use Rattle.cells.specs.declared.place.At.{At}
use Rattle.cells.specs.declared.place.Size.{Size}
use Rattle.cells.specs.declared.place.Box3.{Box3}
use Rattle.cells.specs.declared.place.Axis.{Axis}
use Rattle.cells.specs.declared.place.Axis.TheVariants.{X, Y, F}
use Rattle.cells.specs.Places.{minus, on_axis, plus, spot}
use Rattle.cells.specs.Neighbours.{unit_step}
use Rattle.cells.specs.Boxes.{HoldsBox, IsInBox}
use Rattle.cells.proofs.BoxTests.{OnAxes, of_inside, on_axis_bounds}
use Rattle.boxes.proofs.Additions.{counts}
use Rattle.boxes.proofs.Boxes.{box_equal, box_part}
use Rattle.costs.specs.Costs.{map_within, pairs_at, seam_of, total_of, window_of}
use Rattle.costs.proofs.Wholes.{outside_none}

-- a cell outside a box is the first of no pair that is in it
pub no_pairs : (d : At → At → ℕ) (rect : Box3) (m : At → Option At) (p : At) → (IsInBox rect p → ⊥) → pairs_at d (map_within rect m) p ≡ 0
no_pairs d rect m p out = ap (λ a. seam_of d X a (next X) + seam_of d Y a (next Y) + seam_of d F a (next F)) (outside_none rect m p out)
  where
    next : Axis → Option At
    next axis = map_within rect m (plus p (unit_step axis))

-- a coordinate before an axis or past it is none of the axis
off_axis : (n : ℕ) (z : ℤ) → (z <ℤ pos 0) ⊎ (pos n ≤ℤ z) → IsSome (on_axis n z) → ⊥
off_axis n z off on = ⊎_elim (λ before. omega (arith, ints, on_axis_bounds n z on)) (λ past. omega (arith, ints, on_axis_bounds n z on)) off

corner_of : (z : ℤ) → pos 0 ≤ℤ z → (c : ℕ) × (z ≡ pos c)
corner_of (pos c) le = (c, refl)
corner_of (negsuc c) le = absurd (omega (arith, ints))

-- the total of what a box inside the output has of a map is the window sum of the box
pub total_within : (d : At → At → ℕ) (size : Size) (rect : Box3) (m : At → Option At) → HoldsBox size rect.corner rect.size → total_of d size (map_within rect m) ≡ window_of d rect m
total_within d size rect m holds = by (corner_of rect.corner.x holds.x.from) (corner_of rect.corner.y holds.y.from) (corner_of rect.corner.f holds.f.from)
  where
    beside : (n a len : ℕ) (z : ℤ) → z ≡ pos a → (n < a) ⊎ (a + len ≤ n) → ((pos n -ℤ z) <ℤ pos 0) ⊎ (pos len ≤ℤ (pos n -ℤ z))
    beside n a len z e = ⊎_elim (λ lt. inl (omega (arith, ints))) (λ le. inr (omega (arith, ints)))

    one : (z : ℤ) (a n : ℕ) → z ≡ pos a → pos (a + n) ≡ z +ℤ pos n
    one z a n e = omega (arith, ints)

    by : (c : ℕ) × (rect.corner.x ≡ pos c) → (c : ℕ) × (rect.corner.y ≡ pos c) → (c : ℕ) × (rect.corner.f ≡ pos c) → total_of d size (map_within rect m) ≡ window_of d rect m
    by (a, ea) (b, eb) (c, ec) =
        box_part counts size rect.size a b c (λ x y f. pairs_at d (map_within rect m) (spot x y f))
        (omega (arith, ints, ea, holds.x.to)) (omega (arith, ints, eb, holds.y.to)) (omega (arith, ints, ec, holds.f.to))
        (λ x y f off. out x y f (λ on. off_axis rect.size.w (pos x -ℤ rect.corner.x) (beside x a rect.size.w rect.corner.x ea off) on.x))
        (λ x y f off. out x y f (λ on. off_axis rect.size.h (pos y -ℤ rect.corner.y) (beside y b rect.size.h rect.corner.y eb off) on.y))
        (λ x y f off. out x y f (λ on. off_axis rect.size.f (pos f -ℤ rect.corner.f) (beside f c rect.size.f rect.corner.f ec off) on.f))
        ∙ box_equal counts rect.size _ _ (λ x y f lx ly lf. ap (pairs_at d (map_within rect m)) (moved x y f))
      where
        out : (x y f : ℕ) → (OnAxes rect.size (minus (spot x y f) rect.corner) → ⊥) → pairs_at d (map_within rect m) (spot x y f) ≡ 0
        out x y f off = no_pairs d rect m (spot x y f) (λ in_box. off (of_inside rect.size (minus (spot x y f) rect.corner) in_box))

        moved : (x y f : ℕ) → spot (a + x) (b + y) (c + f) ≡ plus rect.corner (spot x y f)
        moved x y f = λ k. record { x = one rect.corner.x a x ea k; y = one rect.corner.y b y eb k; f = one rect.corner.f c f ec k }
