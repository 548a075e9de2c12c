-- The window sum of a box is that of what the output has of it.
use Rattle.std.proofs.Common.{◌≡◌, ℕ, ◌+◌, ◌-◌, ◌<◌, ◌≤◌, ◌⊎◌, inl, inr, refl, ap, sym, ◌∙◌, subst, arith, ⊎_elim, Bool, true, false}
use Rattle.std.proofs.lemmas.Int.{ints}
use Rattle.std.proofs.lemmas.Bool.{cases_lt}
use Rattle.std.specs.Prelude.{ℤ, pos, ◌+ℤ◌, None, is_some, if◌then◌else◌}
use mathlib.Core.Bool.{false≢true}
use Rattle.cells.specs.declared.place.At.{At}
use Rattle.cells.specs.declared.place.Box3.{Box3}
use Rattle.cells.specs.Boxes.{AxisHolds, HasCells, HoldsBox, IsInBox, cell_in}
use Rattle.cells.specs.Places.{IsInside, index_in, plus, spot}
use Rattle.cells.proofs.BoxTests.{of_inside, on_axis_bounds}
use Rattle.boxes.specs.Sums.{sum_box}
use Rattle.boxes.proofs.Additions.{counts}
use Rattle.boxes.proofs.Boxes.{box_equal, box_none, box_part}
use Rattle.map_canvas.specs.Maps.{SourceMap, map_at, source_at}
use Rattle.boxes.specs.Pairs.{in_box}
use Rattle.boxes.proofs.Cells.{cell_inside, cell_of}
use Rattle.costs.specs.Costs.{map_within, pairs_at, window_of}
use Rattle.costs.specs.Intersections.{IsIntersection, IsOff, IsOn, IsRunOn}
use Rattle.costs.proofs.Boxes.{no_pairs}
use Rattle.costs.proofs.Wholes.{no_index}

-- a coordinate on an axis isn't off it
on_or_off : (n : ℕ) (z : ℤ) → IsOn n z → IsOff n z → ⊥
on_or_off n z on off = ⊎_elim (λ before. omega (arith, ints, on.0)) (λ past. omega (arith, ints, on.1)) off

-- a count whose cell lies on the axis is one of those taken
taken_if : (n : ℕ) (corner : ℤ) (len skipped taken c : ℕ) → IsRunOn n corner len skipped taken → c < len → IsOn n (corner +ℤ pos c) → (skipped ≤ c) × (c < skipped + taken)
taken_if n corner len skipped taken c run lt on = ⊎_elim
    (λ before. absurd (on_or_off n (corner +ℤ pos c) on (run.outside c lt (inl before))))
    (λ from. ⊎_elim (λ under. (from, under)) (λ past. absurd (on_or_off n (corner +ℤ pos c) on (run.outside c lt (inr past)))) (cases_lt c (skipped + taken)))
    (cases_lt c skipped)

two_on : (z : ℤ) (a b : ℕ) → (z +ℤ pos a) +ℤ pos b ≡ z +ℤ pos (a + b)
two_on z a b = omega (arith, ints)

one_count : (z : ℤ) (a b : ℕ) → z +ℤ pos a ≡ z +ℤ pos b → a ≡ b
one_count z a b e = omega (arith, ints)

module _ (d : At → At → ℕ) (m : SourceMap) (rect inner : Box3) (is : IsIntersection m.size rect inner) where
  -- the cell of the inner box at given counts
  cell_is : (x y f : ℕ) → cell_in inner x y f ≡ cell_in rect (is.x + x) (is.y + y) (is.f + f)
  cell_is x y f =
      ap (λ p. plus p (spot x y f)) is.corner
      ∙ (λ k. record { x = two_on rect.corner.x is.x x k; y = two_on rect.corner.y is.y y k; f = two_on rect.corner.f is.f f k })

  inner_in_rect : (p : At) → IsInBox inner p → IsInBox rect p
  inner_in_rect p inside =
      let at = cell_of inner p inside in
      subst (IsInBox rect) (sym (at.cell ∙ cell_is at.x at.y at.f))
      (cell_inside rect (is.x + at.x) (is.y + at.y) (is.f + at.f)
      (record { column = omega (arith, is.columns.room, at.counts.column); row = omega (arith, is.rows.room, at.counts.row); frame = omega (arith, is.frames.room, at.counts.frame) }))

  -- a cell of the box that the output has is one of the inner box
  in_inner : (p : At) → IsInBox rect p → IsInside m.size p → IsInBox inner p
  in_inner p inside on =
      let at = cell_of rect p inside in
      let axes = of_inside m.size (cell_in rect at.x at.y at.f) (subst (IsInside m.size) at.cell on) in
      let x = taken_if m.size.w rect.corner.x rect.size.w is.x inner.size.w at.x is.columns at.counts.column (on_axis_bounds m.size.w _ axes.x) in
      let y = taken_if m.size.h rect.corner.y rect.size.h is.y inner.size.h at.y is.rows at.counts.row (on_axis_bounds m.size.h _ axes.y) in
      let f = taken_if m.size.f rect.corner.f rect.size.f is.f inner.size.f at.f is.frames at.counts.frame (on_axis_bounds m.size.f _ axes.f) in
      let place : cell_in inner (at.x - is.x) (at.y - is.y) (at.f - is.f) ≡ p =
      cell_is (at.x - is.x) (at.y - is.y) (at.f - is.f)
      ∙ (λ k. cell_in rect (back is.x at.x x.0 k) (back is.y at.y y.0 k) (back is.f at.f f.0 k)) ∙ sym at.cell in
      subst (IsInBox inner) place
      (cell_inside inner (at.x - is.x) (at.y - is.y) (at.f - is.f)
      (record { column = omega (arith, x.0, x.1); row = omega (arith, y.0, y.1); frame = omega (arith, f.0, f.1) }))
    where
      back : (a b : ℕ) → a ≤ b → a + (b - a) ≡ b
      back a b le = omega arith

  -- both boxes have the same of the map
  same_within : (p : At) → map_within rect (map_at m) p ≡ map_within inner (map_at m) p
  same_within p = by (in_box rect p) (in_box inner p) refl refl
    where
      by : (b c : Bool) → in_box rect p ≡ b → in_box inner p ≡ c → map_within rect (map_at m) p ≡ map_within inner (map_at m) p
      by true true eb ec = ap (λ b. if b then map_at m p else None) (eb ∙ sym ec)
      by false false eb ec = ap (λ b. if b then map_at m p else None) (eb ∙ sym ec)
      by false true eb ec = absurd (false≢true (sym eb ∙ inner_in_rect p ec))
      by true false eb ec =
          ap (λ b. if b then map_at m p else None) eb
          ∙ ap (source_at m.sources) (outside (is_some (index_in m.size p)) refl)
          ∙ ap (λ b. if b then map_at m p else None) (sym ec)
        where
          outside : (o : Bool) → is_some (index_in m.size p) ≡ o → index_in m.size p ≡ None
          outside true on = absurd (false≢true (sym ec ∙ in_inner p eb on))
          outside false off = no_index (index_in m.size p) off

  -- a count that isn't taken is that of no cell of the inner box
  apart : (a skipped taken c : ℕ) → (a < skipped) ⊎ (skipped + taken ≤ a) → c < taken → a ≡ skipped + c → ⊥
  apart a skipped taken c off lt e = ⊎_elim (λ before. omega arith) (λ past. omega arith) off

  abbrev term : ℕ → ℕ → ℕ → ℕ
  term x y f = pairs_at d (map_within inner (map_at m)) (cell_in rect x y f)

  none_at : (x y f : ℕ) → (IsInBox inner (cell_in rect x y f) → ⊥) → term x y f ≡ 0
  none_at x y f out = no_pairs d inner (map_at m) (cell_in rect x y f) out

  same_cell : (x y f : ℕ) (inside : IsInBox inner (cell_in rect x y f)) → let at = cell_of inner (cell_in rect x y f) inside in cell_in rect x y f ≡ cell_in rect (is.x + at.x) (is.y + at.y) (is.f + at.f)
  same_cell x y f inside = let at = cell_of inner (cell_in rect x y f) inside in at.cell ∙ cell_is at.x at.y at.f

  window_inside : window_of d rect (map_at m) ≡ window_of d inner (map_at m)
  window_inside =
      (λ k. sum_box rect.size (λ x y f. pairs_at d (λ p. same_within p k) (cell_in rect x y f)))
      ∙ box_part counts rect.size inner.size is.x is.y is.f term is.columns.room is.rows.room is.frames.room
      (λ x y f off. none_at x y f (λ inside. let at = cell_of inner (cell_in rect x y f) inside in
      apart x is.x inner.size.w at.x off at.counts.column (one_count rect.corner.x x (is.x + at.x) (λ k. (same_cell x y f inside k).x))))
      (λ x y f off. none_at x y f (λ inside. let at = cell_of inner (cell_in rect x y f) inside in
      apart y is.y inner.size.h at.y off at.counts.row (one_count rect.corner.y y (is.y + at.y) (λ k. (same_cell x y f inside k).y))))
      (λ x y f off. none_at x y f (λ inside. let at = cell_of inner (cell_in rect x y f) inside in
      apart f is.f inner.size.f at.f off at.counts.frame (one_count rect.corner.f f (is.f + at.f) (λ k. (same_cell x y f inside k).f))))
      ∙ box_equal counts inner.size _ _ (λ x y f lx ly lf. ap (pairs_at d (map_within inner (map_at m))) (sym (cell_is x y f)))

  -- where nothing is taken, nothing costs
  pub window_nothing : (HasCells inner.size → ⊥) → window_of d rect (map_at m) ≡ 0
  window_nothing none =
      window_inside
      ∙ box_none counts inner.size _ (λ x y f lx ly lf. absurd (none (record { w = omega arith; h = omega arith; f = omega arith })))

  pub window_same : window_of d inner (map_at m) ≡ window_of d rect (map_at m)
  window_same = sym window_inside

  -- what is taken lies inside
  pub inner_holds : HasCells inner.size → HoldsBox m.size inner.corner inner.size
  inner_holds some = record {
    x = subst (λ (p : At). AxisHolds m.size.w p.x inner.size.w) (sym is.corner) (axis m.size.w rect.corner.x rect.size.w is.x inner.size.w is.columns some.w);
    y = subst (λ (p : At). AxisHolds m.size.h p.y inner.size.h) (sym is.corner) (axis m.size.h rect.corner.y rect.size.h is.y inner.size.h is.rows some.h);
    f = subst (λ (p : At). AxisHolds m.size.f p.f inner.size.f) (sym is.corner) (axis m.size.f rect.corner.f rect.size.f is.f inner.size.f is.frames some.f);
  }
    where
      axis : (n : ℕ) (corner : ℤ) (len skipped taken : ℕ) → IsRunOn n corner len skipped taken → 1 ≤ taken → AxisHolds n (corner +ℤ pos skipped) taken
      axis n corner len skipped taken run some =
          let first = run.inside skipped (omega arith) (omega arith) in
          let last = run.inside (skipped + (taken - 1)) (omega arith) (omega arith) in
          record { from = first.0; to = omega (arith, ints, last.1) }
