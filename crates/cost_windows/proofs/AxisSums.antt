-- The sum of a window as the sums of the pairs along each axis.
use Rattle.std.proofs.Common.{◌≡◌, ◌≤◌, ◌+◌, ◌⊎◌, ℕ, refl, ap, sym, ◌∙◌, subst, arith, ⊎_elim, inl, inr}
use Rattle.std.proofs.lemmas.Int.{ints}
use Rattle.std.specs.Prelude.{ℤ, pos, ◌+ℤ◌, Bool, true, false, Option, Some, None, IsSome, if◌then◌else◌}
use Rattle.cells.specs.declared.place.At.{At}
use Rattle.cells.specs.declared.place.Size.{Size}
use Rattle.cells.specs.declared.place.Box3.{Box3}
use Rattle.cells.specs.declared.place.Axis.{Axis}
use Rattle.cells.specs.declared.place.Axis.TheVariants.{X, Y, F}
use Rattle.cells.specs.Boxes.{IsInBox}
use Rattle.cells.specs.Neighbours.{unit_step}
use Rattle.cells.specs.Places.{IsInside, plus, spot}
use Rattle.cells.proofs.BoxLaws.{plus_minus}
use Rattle.cells.proofs.BoxTests.{of_inside, on_axis_bounds}
use Rattle.cells.proofs.Raster.{index_of_spot}
use Rattle.boxes.specs.Sums.{sum_box}
use Rattle.boxes.proofs.Additions.{counts}
use Rattle.boxes.proofs.Boxes.{box_equal, box_part, box_plus}
use Rattle.costs.specs.Costs.{map_within, pair_at, seam_of}
use Rattle.cost_windows.specs.Windows.{window_at}
use Rattle.boxes.specs.Pairs.{AreCounts}
use Rattle.boxes.specs.Pairs.{in_box}
use Rattle.cost_windows.specs.Slides.{axis_sum, less_one}
use Rattle.costs.proofs.Wholes.{outside_none}

-- the cells of a box are those whose counts are below its axes
pub in_box_of : (rect : Box3) (x y f : ℕ) → AreCounts rect.size x y f → IsInBox rect (plus rect.corner (spot x y f))
in_box_of rect x y f are =
    subst (IsInside rect.size) (sym (plus_minus rect.corner (spot x y f))) (subst IsSome (sym (index_of_spot rect.size x y f are.column are.row are.frame)) refl)

pub counts_of_box : (rect : Box3) (x y f : ℕ) → IsInBox rect (plus rect.corner (spot x y f)) → AreCounts rect.size x y f
counts_of_box rect x y f inside =
    let on = of_inside rect.size (spot x y f) (subst (IsInside rect.size) (plus_minus rect.corner (spot x y f)) inside) in
    record {
      column = omega (arith, ints, on_axis_bounds rect.size.w (pos x) on.x);
      row = omega (arith, ints, on_axis_bounds rect.size.h (pos y) on.y);
      frame = omega (arith, ints, on_axis_bounds rect.size.f (pos f) on.f);
    }

-- what a map has in a box
pub inside_same : (rect : Box3) (m : At → Option At) (p : At) → IsInBox rect p → map_within rect m p ≡ m p
inside_same rect m p inside = ap (λ b. if b then m p else None) inside

-- one step along an axis, by counts
abbrev step_x : Axis → ℕ
step_x X = 1
step_x Y = 0
step_x F = 0

abbrev step_y : Axis → ℕ
step_y X = 0
step_y Y = 1
step_y F = 0

abbrev step_f : Axis → ℕ
step_f X = 0
step_f Y = 0
step_f F = 1

step_is : (axis : Axis) → unit_step axis ≡ spot (step_x axis) (step_y axis) (step_f axis)
step_is X = refl
step_is Y = refl
step_is F = refl

next_of : (corner : At) (axis : Axis) (x y f : ℕ) → plus (plus corner (spot x y f)) (unit_step axis) ≡ plus corner (spot (x + step_x axis) (y + step_y axis) (f + step_f axis))
next_of corner axis x y f =
    ap (plus (plus corner (spot x y f))) (step_is axis)
    ∙ (λ k. record { x = more corner.x x (step_x axis) k; y = more corner.y y (step_y axis) k; f = more corner.f f (step_f axis) k })
  where
    more : (z : ℤ) (c d : ℕ) → (z +ℤ pos c) +ℤ pos d ≡ z +ℤ pos (c + d)
    more z c d = omega (arith, ints)

-- a cell has a next one along an axis where it is below the axis less one
both_counts : (axis : Axis) (size : Size) (x y f : ℕ) → AreCounts size x y f → AreCounts size (x + step_x axis) (y + step_y axis) (f + step_f axis) → AreCounts (less_one axis size) x y f
both_counts X size x y f first next = record { column = omega (arith, next.column); row = first.row; frame = first.frame }
both_counts Y size x y f first next = record { column = first.column; row = omega (arith, next.row); frame = first.frame }
both_counts F size x y f first next = record { column = first.column; row = first.row; frame = omega (arith, next.frame) }

first_counts : (axis : Axis) (size : Size) (x y f : ℕ) → AreCounts (less_one axis size) x y f → AreCounts size x y f
first_counts X size x y f are = record { column = omega (arith, are.column); row = are.row; frame = are.frame }
first_counts Y size x y f are = record { column = are.column; row = omega (arith, are.row); frame = are.frame }
first_counts F size x y f are = record { column = are.column; row = are.row; frame = omega (arith, are.frame) }

next_counts : (axis : Axis) (size : Size) (x y f : ℕ) → AreCounts (less_one axis size) x y f → AreCounts size (x + step_x axis) (y + step_y axis) (f + step_f axis)
next_counts X size x y f are = record { column = omega (arith, are.column); row = omega (arith, are.row); frame = omega (arith, are.frame) }
next_counts Y size x y f are = record { column = omega (arith, are.column); row = omega (arith, are.row); frame = omega (arith, are.frame) }
next_counts F size x y f are = record { column = omega (arith, are.column); row = omega (arith, are.row); frame = omega (arith, are.frame) }

-- a pair costs nothing where one of the two has no source
seam_none : (d : At → At → ℕ) (axis : Axis) (a b : Option At) → (a ≡ None) ⊎ (b ≡ None) → seam_of d axis a b ≡ 0
seam_none d axis a b none = ⊎_elim (λ first. ap (λ o. seam_of d axis o b) first) (λ second. ap (seam_of d axis a) second ∙ last a) none
  where
    last : (a : Option At) → seam_of d axis a None ≡ 0
    last (Some a) = refl
    last None = refl

-- the pairs of a box along one axis
module _ (d : At → At → ℕ) (m : At → Option At) (axis : Axis) (rect : Box3) where
  pair_out : (x y f : ℕ) → (AreCounts (less_one axis rect.size) x y f → ⊥) → pair_at d (map_within rect m) axis (plus rect.corner (spot x y f)) ≡ 0
  pair_out x y f out = by (in_box rect (plus rect.corner (spot x y f))) refl
    where
      by : (b : Bool) → in_box rect (plus rect.corner (spot x y f)) ≡ b → pair_at d (map_within rect m) axis (plus rect.corner (spot x y f)) ≡ 0
      by true is =
          seam_none d axis _ (map_within rect m (plus (plus rect.corner (spot x y f)) (unit_step axis)))
          (inr (outside_none rect m (plus (plus rect.corner (spot x y f)) (unit_step axis)) (λ inside. out (both_counts axis rect.size x y f (counts_of_box rect x y f is)
          (counts_of_box rect (x + step_x axis) (y + step_y axis) (f + step_f axis) (subst (IsInBox rect) (next_of rect.corner axis x y f) inside))))))
      by false is = seam_none d axis (map_within rect m (plus rect.corner (spot x y f))) _ (inl (ap (λ b. if b then m (plus rect.corner (spot x y f)) else None) is))

  pair_in : (x y f : ℕ) → AreCounts (less_one axis rect.size) x y f → pair_at d (map_within rect m) axis (plus rect.corner (spot x y f)) ≡ pair_at d m axis (plus rect.corner (spot x y f))
  pair_in x y f are =
      let here = in_box_of rect x y f (first_counts axis rect.size x y f are) in
      let there = subst (IsInBox rect) (sym (next_of rect.corner axis x y f)) (in_box_of rect (x + step_x axis) (y + step_y axis) (f + step_f axis) (next_counts axis rect.size x y f are)) in
      λ i. seam_of d axis (inside_same rect m (plus rect.corner (spot x y f)) here i) (inside_same rect m (plus (plus rect.corner (spot x y f)) (unit_step axis)) there i)

  -- are those whose first cell is below the axis less one
  pub axis_pairs : sum_box rect.size (λ x y f. pair_at d (map_within rect m) axis (plus rect.corner (spot x y f)))
      ≡ sum_box (less_one axis rect.size) (λ x y f. pair_at d m axis (plus rect.corner (spot x y f)))
  axis_pairs =
      box_part counts rect.size (less_one axis rect.size) 0 0 0 (λ x y f. pair_at d (map_within rect m) axis (plus rect.corner (spot x y f)))
      (omega (arith, (less axis).0)) (omega (arith, (less axis).1)) (omega (arith, (less axis).2))
      (λ x y f out. pair_out x y f (λ are. ⊎_elim (λ lt. omega arith) (λ le. omega (arith, are.column)) out))
      (λ x y f out. pair_out x y f (λ are. ⊎_elim (λ lt. omega arith) (λ le. omega (arith, are.row)) out))
      (λ x y f out. pair_out x y f (λ are. ⊎_elim (λ lt. omega arith) (λ le. omega (arith, are.frame)) out))
      ∙ box_equal counts (less_one axis rect.size) (λ x y f. pair_at d (map_within rect m) axis (plus rect.corner (spot (0 + x) (0 + y) (0 + f))))
      (λ x y f. pair_at d m axis (plus rect.corner (spot x y f)))
      (λ x y f lx ly lf. (λ i. pair_at d (map_within rect m) axis (plus rect.corner (spot (none x i) (none y i) (none f i)))) ∙ pair_in x y f (record { column = lx; row = ly; frame = lf }))
    where
      none : (n : ℕ) → 0 + n ≡ n
      none n = omega arith

      less : (axis : Axis) → ((less_one axis rect.size).w ≤ rect.size.w) × ((less_one axis rect.size).h ≤ rect.size.h) × ((less_one axis rect.size).f ≤ rect.size.f)
      less X = (omega arith, omega arith, omega arith)
      less Y = (omega arith, omega arith, omega arith)
      less F = (omega arith, omega arith, omega arith)

-- the sum of a window is that of its pairs along each axis
pub window_by_axes : (d : At → At → ℕ) (window : Size) (m : At → Option At) (a b c : ℕ)
    → window_at d window m (spot a b c) ≡ axis_sum d m X window a b c + axis_sum d m Y window a b c + axis_sum d m F window a b c
window_by_axes d window m a b c =
    box_plus counts window (λ x y f. along X x y f + along Y x y f) (along F)
    ∙ ap (λ n. n + sum_box window (along F)) (box_plus counts window (along X) (along Y))
    ∙ (λ i. axis_pairs d m X rect i + axis_pairs d m Y rect i + axis_pairs d m F rect i)
  where
    rect : Box3
    rect = record { corner = spot a b c; size = window }

    along : Axis → ℕ → ℕ → ℕ → ℕ
    along axis x y f = pair_at d (map_within (record { corner = spot a b c; size = window }) m) axis (plus (spot a b c) (spot x y f))
