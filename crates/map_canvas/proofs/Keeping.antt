-- Filled neighbours outside a box, axis by axis.
use Rattle.std.proofs.Common.{◌≡◌, ℕ, zero, suc, ◌<◌, ◌≤◌, refl, sym, ◌∙◌, subst, arith, rules, Bool, true, false, ◌⊎◌, inl, inr}
use Rattle.std.proofs.lemmas.Int.{ints}
use Rattle.std.specs.Prelude.{ℤ, pos, negsuc, ◌+ℤ◌, ◌-ℤ◌, ◌≤ℤ◌, Option, Some, None, IsSome, FitsSigned}
use Rattle.std.specs.Int.{w32}
use Rattle.limits.specs.declared.bounds.TheConstants.{GREATEST_AXIS}
use mathlib.Core.Bool.{false≢true}
use Rattle.cells.specs.declared.place.At.{At}
use Rattle.cells.specs.declared.place.Axis.{Axis}
use Rattle.cells.specs.declared.place.Axis.TheVariants.{X, Y, F}
use Rattle.cells.specs.declared.place.Box3.{Box3}
use Rattle.cells.specs.Neighbours.{unit_step}
use Rattle.cells.specs.Places.{DifferenceFits, IsInside, SumFits, index_in, plus, minus}
use Rattle.cells.proofs.Raster.{OnAxis, index_parts, has_index}
use Rattle.map_canvas.specs.Maps.{SourceMap, IsFilled, IsMap, source_at}
use Rattle.map_canvas.specs.Canvases.{IsFilledOutside, MeetsAlong, MeetsOutside}

pub filled_inside : (m : SourceMap) (p : At) → IsFilled m p → IsInside m.size p
filled_inside m p filled = by (index_in m.size p) filled
  where
    by : (o : Option ℕ) → IsSome (source_at m.sources o) → IsSome o
    by None some = absurd (false≢true some)
    by (Some i) some = refl

-- a step from a coordinate on an axis
near_fits : (z : ℤ) → negsuc 0 ≤ℤ z → z ≤ℤ pos GREATEST_AXIS → FitsSigned w32 z
near_fits (pos d) low high = let lt : d < 4097 = omega (arith, ints, high) in search rules
near_fits (negsuc zero) low high = search rules
near_fits (negsuc (suc d)) low high = absurd (omega (arith, ints, low))

step_fits : (n c : ℕ) (z by' : ℤ) → OnAxis n z c → n ≤ GREATEST_AXIS → pos 0 ≤ℤ by' → by' ≤ℤ pos 1 → FitsSigned w32 (z +ℤ by') × FitsSigned w32 (z -ℤ by')
step_fits n c z by' on le low high =
    (near_fits (z +ℤ by') (omega (arith, ints, on.is)) (omega (arith, ints, on.is, on.below)), near_fits (z -ℤ by') (omega (arith, ints, on.is)) (omega (arith, ints, on.is, on.below)))

-- the steps of a neighbour on each axis
still : (pos 0 ≤ℤ pos 0) × (pos 0 ≤ℤ pos 1)
still = (omega (arith, ints), omega (arith, ints))

onward : (pos 0 ≤ℤ pos 1) × (pos 1 ≤ℤ pos 1)
onward = (omega (arith, ints), omega (arith, ints))

module _ (m : SourceMap) (is : IsMap m) (p : At) (filled : IsFilled m p) where
  fits : (by' : At) → (pos 0 ≤ℤ by'.x) × (by'.x ≤ℤ pos 1) → (pos 0 ≤ℤ by'.y) × (by'.y ≤ℤ pos 1) → (pos 0 ≤ℤ by'.f) × (by'.f ≤ℤ pos 1) → SumFits p by' × DifferenceFits p by'
  fits by' x y f =
      let at = index_parts m.size p _ (has_index (index_in m.size p) 0 (filled_inside m p filled)) in
      let in_x = step_fits m.size.w at.x p.x by'.x at.x_on is.small.axes.w.1 x.0 x.1 in
      let in_y = step_fits m.size.h at.y p.y by'.y at.y_on is.small.axes.h.1 y.0 y.1 in
      let in_f = step_fits m.size.f at.f p.f by'.f at.f_on is.small.axes.f.1 f.0 f.1 in
      (record { x = in_x.0; y = in_y.0; f = in_f.0 }, record { x = in_x.1; y = in_y.1; f = in_f.1 })

  pub neighbours_fit : (axis : Axis) → SumFits p (unit_step axis) × DifferenceFits p (unit_step axis)
  neighbours_fit X = fits (unit_step X) onward still still
  neighbours_fit Y = fits (unit_step Y) still onward still
  neighbours_fit F = fits (unit_step F) still still onward

back : (a b : ℤ) → a ≡ (a -ℤ b) +ℤ b
back a b = omega (arith, ints)

forth : (a b c : ℤ) → a ≡ b +ℤ c → b ≡ a -ℤ c
forth a b c e = omega (arith, ints)

module _ (m : SourceMap) (rect : Box3) (p : At) where
  pub meets_of : (axis : Axis) → MeetsAlong m rect p axis → MeetsOutside m rect p
  meets_of axis (inl after) = record { other = plus p (unit_step axis); beside = record { axis = axis; next = inl refl }; outside = after }
  meets_of axis (inr before) = record {
    other = minus p (unit_step axis);
    beside = record {
      axis = axis;
      next = inr (λ k. record { x = back p.x (unit_step axis).x k; y = back p.y (unit_step axis).y k; f = back p.f (unit_step axis).f k });
    };
    outside = before;
  }

  along : (axis : Axis) (other : At) → (other ≡ plus p (unit_step axis)) ⊎ (p ≡ plus other (unit_step axis)) → IsFilledOutside m rect other → MeetsAlong m rect p axis
  along axis other (inl e) outside = inl (subst (IsFilledOutside m rect) e outside)
  along axis other (inr e) outside =
      let step = unit_step axis in
      let same : other ≡ minus p step =
      λ k. record { x = forth p.x other.x step.x (λ j. (e j).x) k; y = forth p.y other.y step.y (λ j. (e j).y) k; f = forth p.f other.f step.f (λ j. (e j).f) k } in
      inr (subst (IsFilledOutside m rect) same outside)

  -- where there is none along the first two axes, there is one along the third
  pub meets_third : (x y f : Bool) → (MeetsAlong m rect p X → x ≡ true) → (MeetsAlong m rect p Y → y ≡ true) → (MeetsAlong m rect p F → f ≡ true) → x ≡ false → y ≡ false
      → MeetsOutside m rect p → f ≡ true
  meets_third x y f of_x of_y of_f no_x no_y meets = by meets.beside.axis (along meets.beside.axis meets.other meets.beside.next meets.outside)
    where
      by : (axis : Axis) → MeetsAlong m rect p axis → f ≡ true
      by X found = absurd (false≢true (sym no_x ∙ of_x found))
      by Y found = absurd (false≢true (sym no_y ∙ of_y found))
      by F found = of_f found
