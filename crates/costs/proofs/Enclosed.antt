-- A cell whose neighbours are all in its box or outside the output has no filled one outside the box.
use Rattle.std.proofs.Common.{◌≡◌, ℕ, ◌+◌, ◌-◌, ◌≤◌, refl, ap, sym, ◌∙◌, subst, arith, ⊎_elim, inl, inr, false}
use Rattle.std.proofs.lemmas.Int.{ints}
use mathlib.Core.Bool.{false≢true}
use Rattle.std.specs.Prelude.{ℤ, pos, ◌+ℤ◌, ◌-ℤ◌, ◌≤ℤ◌, IsSome}
use Rattle.cells.specs.declared.place.At.{At}
use Rattle.cells.specs.declared.place.Axis.TheVariants.{X, Y, F}
use Rattle.cells.specs.declared.place.Box3.{Box3}
use Rattle.cells.specs.Neighbours.{unit_step}
use Rattle.cells.specs.Places.{minus, on_axis}
use Rattle.cells.specs.Boxes.{cell_in}
use Rattle.cells.proofs.BoxTests.{OnAxes, of_inside, on_axis_bounds}
use Rattle.map_canvas.specs.Canvases.{IsFilledOutside, IsKept, MeetsAlong}
use Rattle.map_canvas.specs.Maps.{SourceMap}
use Rattle.map_canvas.proofs.Keeping.{filled_inside, meets_third}
use Rattle.boxes.specs.Pairs.{AreCounts}
use Rattle.boxes.proofs.Cells.{cell_inside, next_x, next_y, next_f}
use Rattle.costs.specs.Enclosures.{IsEnclosed}
use Rattle.costs.proofs.Copies.{plus_back}

-- a coordinate past an axis, or before it, is none of the axis
past : (n c : ℕ) (z corner : ℤ) → IsSome (on_axis n z) → z ≡ (corner +ℤ pos c) +ℤ pos 1 → pos n ≤ℤ (corner +ℤ pos (c + 1)) → ⊥
past n c z corner on e le = omega (arith, ints, on_axis_bounds n z on, e, le)

before : (n c : ℕ) (z corner : ℤ) → IsSome (on_axis n z) → z ≡ (corner +ℤ pos c) -ℤ pos 1 → corner +ℤ pos c ≡ pos 0 → ⊥
before n c z corner on e first = omega (arith, ints, on_axis_bounds n z on, e, first)

one_less : (c : ℕ) → 1 ≤ c → (c - 1) + 1 ≡ c
one_less c some = omega arith

module _ (m : SourceMap) (rect : Box3) (x y f : ℕ) (are : AreCounts rect.size x y f) (enclosed : IsEnclosed m.size rect x y f) where
  abbrev p : At
  p = cell_in rect x y f

  -- a cell of the box isn't outside it
  inside : (other q : At) → other ≡ q → IsFilledOutside m rect other → (IsFilledOutside m rect q)
  inside other q e outside = subst (IsFilledOutside m rect) e outside

  axes : (q : At) → IsFilledOutside m rect q → OnAxes m.size q
  axes q outside = of_inside m.size q (filled_inside m q outside.0)

  back_x : 1 ≤ x → minus p (unit_step X) ≡ cell_in rect (x - 1) y f
  back_x some = ap (λ n. minus (cell_in rect n y f) (unit_step X)) (sym (one_less x some)) ∙ ap (λ q. minus q (unit_step X)) (sym (next_x rect (x - 1) y f)) ∙ plus_back (cell_in rect (x - 1) y f) (unit_step X)

  back_y : 1 ≤ y → minus p (unit_step Y) ≡ cell_in rect x (y - 1) f
  back_y some = ap (λ n. minus (cell_in rect x n f) (unit_step Y)) (sym (one_less y some)) ∙ ap (λ q. minus q (unit_step Y)) (sym (next_y rect x (y - 1) f)) ∙ plus_back (cell_in rect x (y - 1) f) (unit_step Y)

  back_f : 1 ≤ f → minus p (unit_step F) ≡ cell_in rect x y (f - 1)
  back_f some = ap (λ n. minus (cell_in rect x y n) (unit_step F)) (sym (one_less f some)) ∙ ap (λ q. minus q (unit_step F)) (sym (next_f rect x y (f - 1))) ∙ plus_back (cell_in rect x y (f - 1)) (unit_step F)

  none_x : MeetsAlong m rect p X → ⊥
  none_x (inl out) = ⊎_elim
      (λ lt. (inside _ _ (next_x rect x y f) out).1 (cell_inside rect (x + 1) y f (record { column = lt; row = are.row; frame = are.frame })))
      (λ le. past m.size.w x _ rect.corner.x (axes _ out).x refl le) enclosed.on_x.ahead
  none_x (inr out) = ⊎_elim
      (λ some. (inside _ _ (back_x some) out).1 (cell_inside rect (x - 1) y f (record { column = omega (arith, are.column); row = are.row; frame = are.frame })))
      (λ first. before m.size.w x _ rect.corner.x (axes _ out).x refl first) enclosed.on_x.back

  none_y : MeetsAlong m rect p Y → ⊥
  none_y (inl out) = ⊎_elim
      (λ lt. (inside _ _ (next_y rect x y f) out).1 (cell_inside rect x (y + 1) f (record { column = are.column; row = lt; frame = are.frame })))
      (λ le. past m.size.h y _ rect.corner.y (axes _ out).y refl le) enclosed.on_y.ahead
  none_y (inr out) = ⊎_elim
      (λ some. (inside _ _ (back_y some) out).1 (cell_inside rect x (y - 1) f (record { column = are.column; row = omega (arith, are.row); frame = are.frame })))
      (λ first. before m.size.h y _ rect.corner.y (axes _ out).y refl first) enclosed.on_y.back

  none_f : MeetsAlong m rect p F → ⊥
  none_f (inl out) = ⊎_elim
      (λ lt. (inside _ _ (next_f rect x y f) out).1 (cell_inside rect x y (f + 1) (record { column = are.column; row = are.row; frame = lt })))
      (λ le. past m.size.f f _ rect.corner.f (axes _ out).f refl le) enclosed.on_f.ahead
  none_f (inr out) = ⊎_elim
      (λ some. (inside _ _ (back_f some) out).1 (cell_inside rect x y (f - 1) (record { column = are.column; row = are.row; frame = omega (arith, are.frame) })))
      (λ first. before m.size.f f _ rect.corner.f (axes _ out).f refl first) enclosed.on_f.back

  -- so it isn't kept
  pub enclosed_free : IsKept m rect p → ⊥
  enclosed_free kept = false≢true (meets_third m rect p false false false (λ meets. absurd (none_x meets)) (λ meets. absurd (none_y meets)) (λ meets. absurd (none_f meets)) refl refl kept.meets)
