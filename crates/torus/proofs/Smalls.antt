-- The small canvas: it has the kept cells of the torus, its admissible choices are those of the
-- torus, and of two of them the two totals differ by the same number.
use Rattle.std.proofs.Common.{◌≡◌, ℕ, ◌+◌, ◌-◌, ◌<◌, ◌≤◌, ◌⊎◌, inl, inr, ⊎_elim, refl, ap, sym, ◌∙◌, subst, arith, Bool, true, false, List}
use Rattle.std.proofs.lemmas.Int.{ints}
use mathlib.Core.Bool.{false≢true}
use Rattle.std.specs.Prelude.{ℤ, pos, ◌+ℤ◌, ◌-ℤ◌, Option, Some, None, IsSome, is_some}
use Rattle.cells.specs.declared.place.At.{At}
use Rattle.cells.specs.declared.place.Size.{Size}
use Rattle.cells.specs.declared.place.Axis.{Axis}
use Rattle.cells.specs.declared.place.Axis.TheVariants.{X, Y, F}
use Rattle.cells.specs.declared.place.Box3.{Box3}
use Rattle.cells.specs.Boxes.{IsInBox, cell_in}
use Rattle.cells.specs.Places.{IsInside, index_in, minus, on_axis, plus, spot}
use Rattle.cells.specs.Neighbours.{AreNeighbours, unit_step}
use Rattle.cells.proofs.BoxTests.{inside_of, of_inside, on_axis_bounds, on_axis_some}
use Rattle.cells.proofs.Raster.{has_index, index_parts}
use Rattle.map_canvas.specs.declared.canvas.Placement.{Placement}
use Rattle.map_canvas.specs.Maps.{SourceMap, IsFilled, map_at, source_at}
use Rattle.map_canvas.specs.Canvases.{IsKept, MeetsOutside}
use Rattle.map_canvas.specs.Choices.{chosen}
use Rattle.boxes.specs.Pairs.{AreCounts, one_if}
use Rattle.boxes.proofs.Cells.{cell_inside, cell_of}
use Rattle.costs.specs.Lawful.{IsLawful, is_new}
use Rattle.job_words.specs.declared.tile.Wrap.{Wrap}
use Rattle.torus.specs.Wraps.{around_axis}
use Rattle.torus.specs.Tiles.{AreNeighboursAround, Follows, IsInTile, IsKeptAround, IsLawfulAround, IsSmallMap, Takes, has_before, is_new_around, output_cell, small_box, small_placement, small_size, step_around}
use Rattle.torus.proofs.Axes.{SameStep}
use Rattle.torus.proofs.Frames.{none_of, none_on}
use Rattle.torus.proofs.SmallAxes.{IsSmallAxis, coordinate, small_axis_of, step_of}

-- a place inside a size by its counts
pub record IsSpot (size : Size) (p : At) : Type 0 where
  pub x : ℕ
  pub y : ℕ
  pub f : ℕ
  pub counts : AreCounts size x y f
  pub is : p ≡ spot x y f

pub spot_of : (size : Size) (p : At) → IsInside size p → IsSpot size p
spot_of size p inside =
    let at = index_parts size p _ (has_index (index_in size p) 0 inside) in
    record {
      x = at.x;
      y = at.y;
      f = at.f;
      counts = record { column = at.x_on.below; row = at.y_on.below; frame = at.f_on.below };
      is = λ k. record { x = at.x_on.is k; y = at.y_on.is k; f = at.f_on.is k };
    }

filled_inside : (m : SourceMap) (p : At) → IsFilled m p → IsInside m.size p
filled_inside m p filled = by (index_in m.size p) refl
  where
    by : (i : Option ℕ) → index_in m.size p ≡ i → IsInside m.size p
    by (Some i) e = ap is_some e
    by None e = absurd (false≢true (sym (ap (λ i. is_some (source_at m.sources i)) e) ∙ filled))

-- a coordinate with the step of another is on the box where that one is, and has its place in the small canvas
on_same : (wrapped : Bool) (n : ℕ) (corner : ℤ) (len : ℕ) (p q : ℤ) (j : ℕ) → q ≡ p → step_of wrapped n corner p ≡ pos j → j < len → IsSome (on_axis len (step_of wrapped n corner q))
on_same wrapped n corner len p q j e s lt =
    subst (λ z. IsSome (on_axis len (step_of wrapped n corner z))) (sym e) (subst (λ z. IsSome (on_axis len z)) (sym s) (on_axis_some len (pos j) (omega (arith, ints)) (omega (arith, ints))))

same_place : (wrapped : Bool) (n : ℕ) (corner : ℤ) (a : ℕ) (p q : ℤ) (j : ℕ) → q ≡ p → p ≡ coordinate wrapped n corner a (pos a +ℤ pos j) → coordinate wrapped n corner a (pos (a + j)) ≡ q
same_place wrapped n corner a p q j e is = ap (coordinate wrapped n corner a) (sum_on a j) ∙ sym is ∙ sym e
  where
    sum_on : (a j : ℕ) → pos (a + j) ≡ pos a +ℤ pos j
    sum_on a j = omega (arith, ints)

in_size : (a len s j : ℕ) → a + len ≤ s → j < len → IsSome (on_axis s (pos (a + j)))
in_size a len s j room lt = on_axis_some s (pos (a + j)) (omega (arith, ints)) (omega (arith, ints))

less_one : (a : ℕ) → 1 ≤ a → pos (a - 1) ≡ pos a -ℤ pos 1
less_one a le = omega (arith, ints)

next_one : (a len j : ℕ) → j + 1 ≡ len → pos (a + len) ≡ (pos a +ℤ pos j) +ℤ pos 1
next_one a len j e = omega (arith, ints)

none_one : (a j : ℕ) → pos (a + j) ≡ (pos a +ℤ pos j) +ℤ pos 0
none_one a j = omega (arith, ints)

none_two : (a j : ℕ) → pos (a + j) +ℤ pos 0 ≡ pos a +ℤ pos j
none_two a j = omega (arith, ints)

back_one : (a j : ℕ) → 1 ≤ a → j ≡ 0 → pos a +ℤ pos j ≡ pos (a - 1) +ℤ pos 1
back_one a j le e = omega (arith, ints)

module _ (m : SourceMap) (wrap : Wrap) (placement : Placement) (small : SourceMap) (takes : Takes wrap m.size placement.rect) (is : IsSmallMap m wrap placement.rect small) where
  abbrev rect : Box3
  rect = placement.rect

  abbrev inner : Box3
  inner = small_box wrap placement.rect

  abbrev size : Size
  size = small_size wrap m.size placement.rect

  sx : IsSmallAxis wrap.x m.size.w placement.rect.corner.x placement.rect.size.w (one_if (has_before wrap.x placement.rect.corner.x)) size.w
  sx = small_axis_of wrap.x m.size.w placement.rect.corner.x placement.rect.size.w takes.x

  sy : IsSmallAxis wrap.y m.size.h placement.rect.corner.y placement.rect.size.h (one_if (has_before wrap.y placement.rect.corner.y)) size.h
  sy = small_axis_of wrap.y m.size.h placement.rect.corner.y placement.rect.size.h takes.y

  sf : IsSmallAxis wrap.f m.size.f placement.rect.corner.f placement.rect.size.f (one_if (has_before wrap.f placement.rect.corner.f)) size.f
  sf = small_axis_of wrap.f m.size.f placement.rect.corner.f placement.rect.size.f takes.f

  abbrev cell : At → At
  cell p = output_cell wrap m.size placement.rect p

  abbrev step : At → At
  step q = step_around wrap m.size placement.rect q

  -- a cell of the small canvas stands for a cell of the output, and has its source
  cell_inside_of : (p : At) → IsInside size p → IsInside m.size (cell p)
  cell_inside_of p inside =
      let at = spot_of size p inside in
      subst (λ p. IsInside m.size (cell p)) (sym at.is)
      (inside_of m.size (cell (spot at.x at.y at.f)) (record { x = sx.on at.x at.counts.column; y = sy.on at.y at.counts.row; f = sf.on at.f at.counts.frame }))

  pub source_is : (p : At) → IsInside size p → map_at small p ≡ map_at m (cell p)
  source_is p inside = is.sources p (subst (λ s. IsInside s p) (sym is.size) inside)

  small_inside : (p : At) → IsFilled small p → IsInside size p
  small_inside p filled = subst (λ s. IsInside s p) is.size (filled_inside small p filled)

  -- its step from the corner is that in the small canvas, or neither is one of the box
  abbrev IsOneStep : At → Type 0
  IsOneStep p = (step (cell p) ≡ minus p inner.corner) ⊎ ((index_in placement.rect.size (step (cell p)) ≡ None) × (index_in placement.rect.size (minus p inner.corner) ≡ None))

  one_step : (p : At) → IsInside size p → IsOneStep p
  one_step p inside =
      let at = spot_of size p inside in
      subst IsOneStep (sym at.is) (by at.x at.y at.f (sx.steps at.x at.counts.column) (sy.steps at.y at.counts.row) (sf.steps at.f at.counts.frame))
    where
      s : ℕ → ℕ → ℕ → At
      s x y f = step (cell (spot x y f))

      t : ℕ → ℕ → ℕ → At
      t x y f = minus (spot x y f) inner.corner

      by : (x y f : ℕ) → SameStep placement.rect.size.w (s x y f).x (t x y f).x → SameStep placement.rect.size.h (s x y f).y (t x y f).y → SameStep placement.rect.size.f (s x y f).f (t x y f).f → IsOneStep (spot x y f)
      by x y f (inl ex) (inl ey) (inl ef) = inl (λ k. record { x = ex k; y = ey k; f = ef k })
      by x y f (inr off) sy' sf' =
          inr (none_of (index_in placement.rect.size (s x y f)) (λ i. off.0 (of_inside placement.rect.size (s x y f) i).x), none_of (index_in placement.rect.size (t x y f)) (λ i. off.1 (of_inside placement.rect.size (t x y f) i).x))
      by x y f (inl ex) (inr off) sf' =
          inr (none_of (index_in placement.rect.size (s x y f)) (λ i. off.0 (of_inside placement.rect.size (s x y f) i).y), none_of (index_in placement.rect.size (t x y f)) (λ i. off.1 (of_inside placement.rect.size (t x y f) i).y))
      by x y f (inl ex) (inl ey) (inr off) =
          inr (none_of (index_in placement.rect.size (s x y f)) (λ i. off.0 (of_inside placement.rect.size (s x y f) i).f), none_of (index_in placement.rect.size (t x y f)) (λ i. off.1 (of_inside placement.rect.size (t x y f) i).f))

  pub new_is : (choice : List Bool) (p : At) → IsOneStep p → is_new_around wrap m.size placement choice (cell p) ≡ is_new (small_placement wrap placement) choice p
  new_is choice p (inl e) = ap (λ s. chosen choice (index_in placement.rect.size s)) e
  new_is choice p (inr none) = ap (chosen choice) (none.0 ∙ sym none.1)

  -- a cell of the small canvas is in its box where the output's cell is one of the torus box's
  tile_of : (p : At) → IsInside size p → IsInBox inner p → IsInTile wrap m.size placement.rect (cell p)
  tile_of p inside in_ = by (one_step p inside)
    where
      by : IsOneStep p → IsInTile wrap m.size placement.rect (cell p)
      by (inl e) = record { inside = cell_inside_of p inside; step = subst (IsInside placement.rect.size) (sym e) in_ }
      by (inr none) = absurd (false≢true (sym (ap is_some none.1) ∙ in_))

  box_of : (p : At) → IsInside size p → IsInTile wrap m.size placement.rect (cell p) → IsInBox inner p
  box_of p inside tile = by (one_step p inside)
    where
      by : IsOneStep p → IsInBox inner p
      by (inl e) = subst (IsInside placement.rect.size) e tile.step
      by (inr none) = absurd (false≢true (sym (ap is_some none.0) ∙ tile.step))

  -- the box lies in the small canvas
  pub box_inside : (p : At) → IsInBox inner p → IsInside size p
  box_inside p in_ =
      let at = cell_of inner p in_ in
      subst (IsInside size) (sym at.cell)
      (inside_of size (cell_in inner at.x at.y at.f)
      (record { x = axis _ _ _ at.x sx.room at.counts.column; y = axis _ _ _ at.y sy.room at.counts.row; f = axis _ _ _ at.f sf.room at.counts.frame }))
    where
      axis : (a len s i : ℕ) → a + len ≤ s → i < len → IsSome (on_axis s (pos a +ℤ pos i))
      axis a len s i room lt = on_axis_some s (pos a +ℤ pos i) (omega (arith, ints)) (omega (arith, ints))

  -- one step on in the small canvas is one step on around the output
  follows : (axis : Axis) (p q : At) → q ≡ plus p (unit_step axis) → IsInside size p → IsInside size q → Follows wrap m.size axis (cell p) (cell q)
  follows axis p q e inside inside' =
      let at = spot_of size p inside in
      let there = of_inside size (plus (spot at.x at.y at.f) (unit_step axis)) (subst (IsInside size) (e ∙ ap (λ p. plus p (unit_step axis)) at.is) inside') in
      subst (λ q. Follows wrap m.size axis (cell p) (cell q)) (sym e)
      (subst (λ p. Follows wrap m.size axis (cell p) (cell (plus p (unit_step axis)))) (sym at.is) (by axis at.x at.y at.f at.counts there.x there.y there.f))
    where
      stay : (wrapped : Bool) (n : ℕ) (corner : ℤ) (len a s : ℕ) → IsSmallAxis wrapped n corner len a s → (i : ℕ) → i < s → coordinate wrapped n corner a (pos i +ℤ pos 0) ≡ around_axis wrapped n (coordinate wrapped n corner a (pos i) +ℤ pos 0)
      stay wrapped n corner len a s is i lt = ap (coordinate wrapped n corner a) (none_on (pos i)) ∙ sym (is.stays (coordinate wrapped n corner a (pos i)) (is.on i lt))

      move : (wrapped : Bool) (n : ℕ) (corner : ℤ) (len a s : ℕ) → IsSmallAxis wrapped n corner len a s → (i : ℕ) → IsSome (on_axis s (pos i +ℤ pos 1)) → coordinate wrapped n corner a (pos i +ℤ pos 1) ≡ around_axis wrapped n (coordinate wrapped n corner a (pos i) +ℤ pos 1)
      move wrapped n corner len a s is i on = let b = on_axis_bounds s (pos i +ℤ pos 1) on in is.follows i (omega (arith, ints, b.1))

      by : (axis : Axis) (x y f : ℕ) → AreCounts size x y f → IsSome (on_axis size.w (plus (spot x y f) (unit_step axis)).x) → IsSome (on_axis size.h (plus (spot x y f) (unit_step axis)).y) → IsSome (on_axis size.f (plus (spot x y f) (unit_step axis)).f)
          → Follows wrap m.size axis (cell (spot x y f)) (cell (plus (spot x y f) (unit_step axis)))
      by X x y f c ix iy if' = λ k. record { x = move _ _ _ _ _ _ sx x ix k; y = stay _ _ _ _ _ _ sy y c.row k; f = stay _ _ _ _ _ _ sf f c.frame k }
      by Y x y f c ix iy if' = λ k. record { x = stay _ _ _ _ _ _ sx x c.column k; y = move _ _ _ _ _ _ sy y iy k; f = stay _ _ _ _ _ _ sf f c.frame k }
      by F x y f c ix iy if' = λ k. record { x = stay _ _ _ _ _ _ sx x c.column k; y = stay _ _ _ _ _ _ sy y c.row k; f = move _ _ _ _ _ _ sf f if' k }

  -- what is kept in the small canvas is kept on the torus
  kept_around : (p : At) → IsKept small inner p → IsKeptAround m wrap placement.rect (cell p)
  kept_around p kept =
      let inside = small_inside p kept.filled in
      let inside' = small_inside kept.meets.other kept.meets.outside.0 in
      record {
        inside = tile_of p inside kept.inside;
        filled = subst IsSome (source_is p inside) kept.filled;
        other = cell kept.meets.other;
        beside = record { axis = kept.meets.beside.axis; next = ⊎_elim (λ e. inl (follows kept.meets.beside.axis p kept.meets.other e inside inside')) (λ e. inr (follows kept.meets.beside.axis kept.meets.other p e inside' inside)) kept.meets.beside.next };
        other_filled = subst IsSome (source_is kept.meets.other inside') kept.meets.outside.0;
        outside = λ tile. kept.meets.outside.1 (box_of kept.meets.other inside' tile);
      }

  -- a choice that is admissible on the torus is admissible in the small canvas
  pub lawful_small : (choice : List Bool) → IsLawfulAround m wrap placement choice → IsLawful small (small_placement wrap placement) choice
  lawful_small choice lawful = record {
    unfilled = λ p in_ none.
        let inside = box_inside p in_ in
        sym (new_is choice p (one_step p inside)) ∙ lawful.unfilled (cell p) (tile_of p inside in_) (sym (source_is p inside) ∙ none);
    kept = λ p kept. sym (new_is choice p (one_step p (small_inside p kept.filled))) ∙ lawful.kept (cell p) (kept_around p kept);
  }

  -- BACK: the counts of a cell of the torus box, and the small canvas's cell
  record IsTileCell (p : At) : Type 0 where
    x : ℕ
    y : ℕ
    f : ℕ
    counts : AreCounts placement.rect.size x y f
    step_is : step p ≡ spot x y f
    cell_is : p ≡ cell (cell_in inner x y f)

  tile_cell : (p : At) → IsInTile wrap m.size placement.rect p → IsTileCell p
  tile_cell p tile =
      let at = spot_of placement.rect.size (step p) tile.step in
      let on = of_inside m.size p tile.inside in
      record {
        x = at.x;
        y = at.y;
        f = at.f;
        counts = at.counts;
        step_is = at.is;
        cell_is = λ k. record { x = sx.place p.x at.x on.x (ap (λ s. s.x) at.is) at.counts.column k; y = sy.place p.y at.y on.y (ap (λ s. s.y) at.is) at.counts.row k; f = sf.place p.f at.f on.f (ap (λ s. s.f) at.is) at.counts.frame k };
      }

  -- a filled neighbour outside the torus box is one outside the box of the small canvas
  meets_at : (p r q : At) → IsInside size r → cell r ≡ q → AreNeighbours p r → (IsInTile wrap m.size placement.rect q → ⊥) → IsFilled m q → MeetsOutside small inner p
  meets_at p r q inside e beside out filled = record {
    other = r;
    beside = beside;
    outside = (subst IsSome (sym (source_is r inside)) (subst (IsFilled m) (sym e) filled), λ in_. out (subst (IsInTile wrap m.size placement.rect) e (tile_of r inside in_)));
  }

  in_tile : (q : At) → IsInside m.size q → IsSome (on_axis placement.rect.size.w (step q).x) → IsSome (on_axis placement.rect.size.h (step q).y) → IsSome (on_axis placement.rect.size.f (step q).f) → IsInTile wrap m.size placement.rect q
  in_tile q inside x y f = record { inside = inside; step = inside_of placement.rect.size (step q) (record { x = x; y = y; f = f }) }

  ahead_x : (p q : At) → (at : IsTileCell p) → IsInside m.size p → IsInside m.size q → Follows wrap m.size X p q → (IsInTile wrap m.size placement.rect q → ⊥) → IsFilled m q → MeetsOutside small inner (cell_in inner at.x at.y at.f)
  ahead_x p q at inside inside' e out filled =
      let on = of_inside m.size p inside in
      let on' = of_inside m.size q inside' in
      let ey : q.y ≡ p.y = ap (λ r. r.y) e ∙ sy.stays p.y on.y in
      let on_y = on_same wrap.y m.size.h placement.rect.corner.y placement.rect.size.h p.y q.y at.y ey (ap (λ s. s.y) at.step_is) at.counts.row in
      let at_y = same_place wrap.y m.size.h placement.rect.corner.y (one_if (has_before wrap.y placement.rect.corner.y)) p.y q.y at.y ey (sy.place p.y at.y on.y (ap (λ s. s.y) at.step_is) at.counts.row) in
      let ef : q.f ≡ p.f = ap (λ r. r.f) e ∙ sf.stays p.f on.f in
      let on_f = on_same wrap.f m.size.f placement.rect.corner.f placement.rect.size.f p.f q.f at.f ef (ap (λ s. s.f) at.step_is) at.counts.frame in
      let at_f = same_place wrap.f m.size.f placement.rect.corner.f (one_if (has_before wrap.f placement.rect.corner.f)) p.f q.f at.f ef (sf.place p.f at.f on.f (ap (λ s. s.f) at.step_is) at.counts.frame) in
      ⊎_elim (λ step_on. absurd (out (in_tile q inside' step_on on_y on_f)))
      (λ found. meets_at (cell_in inner at.x at.y at.f) (spot (one_if (has_before wrap.x placement.rect.corner.x) + placement.rect.size.w) (one_if (has_before wrap.y placement.rect.corner.y) + at.y) (one_if (has_before wrap.f placement.rect.corner.f) + at.f)) q
      (inside_of size (spot (one_if (has_before wrap.x placement.rect.corner.x) + placement.rect.size.w) (one_if (has_before wrap.y placement.rect.corner.y) + at.y) (one_if (has_before wrap.f placement.rect.corner.f) + at.f)) (record { x = on_axis_some size.w (pos (one_if (has_before wrap.x placement.rect.corner.x) + placement.rect.size.w)) (omega (arith, ints)) (omega (arith, ints, found.0)); y = in_size (one_if (has_before wrap.y placement.rect.corner.y)) placement.rect.size.h size.h at.y sy.room at.counts.row; f = in_size (one_if (has_before wrap.f placement.rect.corner.f)) placement.rect.size.f size.f at.f sf.room at.counts.frame }))
      (λ k. record { x = (sym found.2) k; y = at_y k; f = at_f k })
      (record { axis = X; next = inl (λ k. record { x = next_one (one_if (has_before wrap.x placement.rect.corner.x)) placement.rect.size.w at.x found.1 k; y = none_one (one_if (has_before wrap.y placement.rect.corner.y)) at.y k; f = none_one (one_if (has_before wrap.f placement.rect.corner.f)) at.f k }) }) out filled)
      (sx.next p.x q.x at.x on.x on'.x (ap (λ r. r.x) e) (ap (λ s. s.x) at.step_is) at.counts.column)

  ahead_y : (p q : At) → (at : IsTileCell p) → IsInside m.size p → IsInside m.size q → Follows wrap m.size Y p q → (IsInTile wrap m.size placement.rect q → ⊥) → IsFilled m q → MeetsOutside small inner (cell_in inner at.x at.y at.f)
  ahead_y p q at inside inside' e out filled =
      let on = of_inside m.size p inside in
      let on' = of_inside m.size q inside' in
      let ex : q.x ≡ p.x = ap (λ r. r.x) e ∙ sx.stays p.x on.x in
      let on_x = on_same wrap.x m.size.w placement.rect.corner.x placement.rect.size.w p.x q.x at.x ex (ap (λ s. s.x) at.step_is) at.counts.column in
      let at_x = same_place wrap.x m.size.w placement.rect.corner.x (one_if (has_before wrap.x placement.rect.corner.x)) p.x q.x at.x ex (sx.place p.x at.x on.x (ap (λ s. s.x) at.step_is) at.counts.column) in
      let ef : q.f ≡ p.f = ap (λ r. r.f) e ∙ sf.stays p.f on.f in
      let on_f = on_same wrap.f m.size.f placement.rect.corner.f placement.rect.size.f p.f q.f at.f ef (ap (λ s. s.f) at.step_is) at.counts.frame in
      let at_f = same_place wrap.f m.size.f placement.rect.corner.f (one_if (has_before wrap.f placement.rect.corner.f)) p.f q.f at.f ef (sf.place p.f at.f on.f (ap (λ s. s.f) at.step_is) at.counts.frame) in
      ⊎_elim (λ step_on. absurd (out (in_tile q inside' on_x step_on on_f)))
      (λ found. meets_at (cell_in inner at.x at.y at.f) (spot (one_if (has_before wrap.x placement.rect.corner.x) + at.x) (one_if (has_before wrap.y placement.rect.corner.y) + placement.rect.size.h) (one_if (has_before wrap.f placement.rect.corner.f) + at.f)) q
      (inside_of size (spot (one_if (has_before wrap.x placement.rect.corner.x) + at.x) (one_if (has_before wrap.y placement.rect.corner.y) + placement.rect.size.h) (one_if (has_before wrap.f placement.rect.corner.f) + at.f)) (record { x = in_size (one_if (has_before wrap.x placement.rect.corner.x)) placement.rect.size.w size.w at.x sx.room at.counts.column; y = on_axis_some size.h (pos (one_if (has_before wrap.y placement.rect.corner.y) + placement.rect.size.h)) (omega (arith, ints)) (omega (arith, ints, found.0)); f = in_size (one_if (has_before wrap.f placement.rect.corner.f)) placement.rect.size.f size.f at.f sf.room at.counts.frame }))
      (λ k. record { x = at_x k; y = (sym found.2) k; f = at_f k })
      (record { axis = Y; next = inl (λ k. record { x = none_one (one_if (has_before wrap.x placement.rect.corner.x)) at.x k; y = next_one (one_if (has_before wrap.y placement.rect.corner.y)) placement.rect.size.h at.y found.1 k; f = none_one (one_if (has_before wrap.f placement.rect.corner.f)) at.f k }) }) out filled)
      (sy.next p.y q.y at.y on.y on'.y (ap (λ r. r.y) e) (ap (λ s. s.y) at.step_is) at.counts.row)

  ahead_f : (p q : At) → (at : IsTileCell p) → IsInside m.size p → IsInside m.size q → Follows wrap m.size F p q → (IsInTile wrap m.size placement.rect q → ⊥) → IsFilled m q → MeetsOutside small inner (cell_in inner at.x at.y at.f)
  ahead_f p q at inside inside' e out filled =
      let on = of_inside m.size p inside in
      let on' = of_inside m.size q inside' in
      let ex : q.x ≡ p.x = ap (λ r. r.x) e ∙ sx.stays p.x on.x in
      let on_x = on_same wrap.x m.size.w placement.rect.corner.x placement.rect.size.w p.x q.x at.x ex (ap (λ s. s.x) at.step_is) at.counts.column in
      let at_x = same_place wrap.x m.size.w placement.rect.corner.x (one_if (has_before wrap.x placement.rect.corner.x)) p.x q.x at.x ex (sx.place p.x at.x on.x (ap (λ s. s.x) at.step_is) at.counts.column) in
      let ey : q.y ≡ p.y = ap (λ r. r.y) e ∙ sy.stays p.y on.y in
      let on_y = on_same wrap.y m.size.h placement.rect.corner.y placement.rect.size.h p.y q.y at.y ey (ap (λ s. s.y) at.step_is) at.counts.row in
      let at_y = same_place wrap.y m.size.h placement.rect.corner.y (one_if (has_before wrap.y placement.rect.corner.y)) p.y q.y at.y ey (sy.place p.y at.y on.y (ap (λ s. s.y) at.step_is) at.counts.row) in
      ⊎_elim (λ step_on. absurd (out (in_tile q inside' on_x on_y step_on)))
      (λ found. meets_at (cell_in inner at.x at.y at.f) (spot (one_if (has_before wrap.x placement.rect.corner.x) + at.x) (one_if (has_before wrap.y placement.rect.corner.y) + at.y) (one_if (has_before wrap.f placement.rect.corner.f) + placement.rect.size.f)) q
      (inside_of size (spot (one_if (has_before wrap.x placement.rect.corner.x) + at.x) (one_if (has_before wrap.y placement.rect.corner.y) + at.y) (one_if (has_before wrap.f placement.rect.corner.f) + placement.rect.size.f)) (record { x = in_size (one_if (has_before wrap.x placement.rect.corner.x)) placement.rect.size.w size.w at.x sx.room at.counts.column; y = in_size (one_if (has_before wrap.y placement.rect.corner.y)) placement.rect.size.h size.h at.y sy.room at.counts.row; f = on_axis_some size.f (pos (one_if (has_before wrap.f placement.rect.corner.f) + placement.rect.size.f)) (omega (arith, ints)) (omega (arith, ints, found.0)) }))
      (λ k. record { x = at_x k; y = at_y k; f = (sym found.2) k })
      (record { axis = F; next = inl (λ k. record { x = none_one (one_if (has_before wrap.x placement.rect.corner.x)) at.x k; y = none_one (one_if (has_before wrap.y placement.rect.corner.y)) at.y k; f = next_one (one_if (has_before wrap.f placement.rect.corner.f)) placement.rect.size.f at.f found.1 k }) }) out filled)
      (sf.next p.f q.f at.f on.f on'.f (ap (λ r. r.f) e) (ap (λ s. s.f) at.step_is) at.counts.frame)

  back_x : (p q : At) → (at : IsTileCell p) → IsInside m.size p → IsInside m.size q → Follows wrap m.size X q p → (IsInTile wrap m.size placement.rect q → ⊥) → IsFilled m q → MeetsOutside small inner (cell_in inner at.x at.y at.f)
  back_x p q at inside inside' e out filled =
      let on = of_inside m.size p inside in
      let on' = of_inside m.size q inside' in
      let ey : q.y ≡ p.y = sym (ap (λ r. r.y) e ∙ sy.stays q.y on'.y) in
      let on_y = on_same wrap.y m.size.h placement.rect.corner.y placement.rect.size.h p.y q.y at.y ey (ap (λ s. s.y) at.step_is) at.counts.row in
      let at_y = same_place wrap.y m.size.h placement.rect.corner.y (one_if (has_before wrap.y placement.rect.corner.y)) p.y q.y at.y ey (sy.place p.y at.y on.y (ap (λ s. s.y) at.step_is) at.counts.row) in
      let ef : q.f ≡ p.f = sym (ap (λ r. r.f) e ∙ sf.stays q.f on'.f) in
      let on_f = on_same wrap.f m.size.f placement.rect.corner.f placement.rect.size.f p.f q.f at.f ef (ap (λ s. s.f) at.step_is) at.counts.frame in
      let at_f = same_place wrap.f m.size.f placement.rect.corner.f (one_if (has_before wrap.f placement.rect.corner.f)) p.f q.f at.f ef (sf.place p.f at.f on.f (ap (λ s. s.f) at.step_is) at.counts.frame) in
      ⊎_elim (λ step_on. absurd (out (in_tile q inside' step_on on_y on_f)))
      (λ found. meets_at (cell_in inner at.x at.y at.f) (spot (one_if (has_before wrap.x placement.rect.corner.x) - 1) (one_if (has_before wrap.y placement.rect.corner.y) + at.y) (one_if (has_before wrap.f placement.rect.corner.f) + at.f)) q
      (inside_of size (spot (one_if (has_before wrap.x placement.rect.corner.x) - 1) (one_if (has_before wrap.y placement.rect.corner.y) + at.y) (one_if (has_before wrap.f placement.rect.corner.f) + at.f)) (record { x = on_axis_some size.w (pos (one_if (has_before wrap.x placement.rect.corner.x) - 1)) (omega (arith, ints)) (omega (arith, ints, found.0, sx.room, at.counts.column)); y = in_size (one_if (has_before wrap.y placement.rect.corner.y)) placement.rect.size.h size.h at.y sy.room at.counts.row; f = in_size (one_if (has_before wrap.f placement.rect.corner.f)) placement.rect.size.f size.f at.f sf.room at.counts.frame }))
      (λ k. record { x = (ap (coordinate wrap.x m.size.w placement.rect.corner.x (one_if (has_before wrap.x placement.rect.corner.x))) (less_one (one_if (has_before wrap.x placement.rect.corner.x)) found.0) ∙ sym found.2) k; y = at_y k; f = at_f k })
      (record { axis = X; next = inr (λ k. record { x = back_one (one_if (has_before wrap.x placement.rect.corner.x)) at.x found.0 found.1 k; y = sym (none_two (one_if (has_before wrap.y placement.rect.corner.y)) at.y) k; f = sym (none_two (one_if (has_before wrap.f placement.rect.corner.f)) at.f) k }) }) out filled)
      (sx.back p.x q.x at.x on.x on'.x (ap (λ r. r.x) e) (ap (λ s. s.x) at.step_is) at.counts.column)

  back_y : (p q : At) → (at : IsTileCell p) → IsInside m.size p → IsInside m.size q → Follows wrap m.size Y q p → (IsInTile wrap m.size placement.rect q → ⊥) → IsFilled m q → MeetsOutside small inner (cell_in inner at.x at.y at.f)
  back_y p q at inside inside' e out filled =
      let on = of_inside m.size p inside in
      let on' = of_inside m.size q inside' in
      let ex : q.x ≡ p.x = sym (ap (λ r. r.x) e ∙ sx.stays q.x on'.x) in
      let on_x = on_same wrap.x m.size.w placement.rect.corner.x placement.rect.size.w p.x q.x at.x ex (ap (λ s. s.x) at.step_is) at.counts.column in
      let at_x = same_place wrap.x m.size.w placement.rect.corner.x (one_if (has_before wrap.x placement.rect.corner.x)) p.x q.x at.x ex (sx.place p.x at.x on.x (ap (λ s. s.x) at.step_is) at.counts.column) in
      let ef : q.f ≡ p.f = sym (ap (λ r. r.f) e ∙ sf.stays q.f on'.f) in
      let on_f = on_same wrap.f m.size.f placement.rect.corner.f placement.rect.size.f p.f q.f at.f ef (ap (λ s. s.f) at.step_is) at.counts.frame in
      let at_f = same_place wrap.f m.size.f placement.rect.corner.f (one_if (has_before wrap.f placement.rect.corner.f)) p.f q.f at.f ef (sf.place p.f at.f on.f (ap (λ s. s.f) at.step_is) at.counts.frame) in
      ⊎_elim (λ step_on. absurd (out (in_tile q inside' on_x step_on on_f)))
      (λ found. meets_at (cell_in inner at.x at.y at.f) (spot (one_if (has_before wrap.x placement.rect.corner.x) + at.x) (one_if (has_before wrap.y placement.rect.corner.y) - 1) (one_if (has_before wrap.f placement.rect.corner.f) + at.f)) q
      (inside_of size (spot (one_if (has_before wrap.x placement.rect.corner.x) + at.x) (one_if (has_before wrap.y placement.rect.corner.y) - 1) (one_if (has_before wrap.f placement.rect.corner.f) + at.f)) (record { x = in_size (one_if (has_before wrap.x placement.rect.corner.x)) placement.rect.size.w size.w at.x sx.room at.counts.column; y = on_axis_some size.h (pos (one_if (has_before wrap.y placement.rect.corner.y) - 1)) (omega (arith, ints)) (omega (arith, ints, found.0, sy.room, at.counts.row)); f = in_size (one_if (has_before wrap.f placement.rect.corner.f)) placement.rect.size.f size.f at.f sf.room at.counts.frame }))
      (λ k. record { x = at_x k; y = (ap (coordinate wrap.y m.size.h placement.rect.corner.y (one_if (has_before wrap.y placement.rect.corner.y))) (less_one (one_if (has_before wrap.y placement.rect.corner.y)) found.0) ∙ sym found.2) k; f = at_f k })
      (record { axis = Y; next = inr (λ k. record { x = sym (none_two (one_if (has_before wrap.x placement.rect.corner.x)) at.x) k; y = back_one (one_if (has_before wrap.y placement.rect.corner.y)) at.y found.0 found.1 k; f = sym (none_two (one_if (has_before wrap.f placement.rect.corner.f)) at.f) k }) }) out filled)
      (sy.back p.y q.y at.y on.y on'.y (ap (λ r. r.y) e) (ap (λ s. s.y) at.step_is) at.counts.row)

  back_f : (p q : At) → (at : IsTileCell p) → IsInside m.size p → IsInside m.size q → Follows wrap m.size F q p → (IsInTile wrap m.size placement.rect q → ⊥) → IsFilled m q → MeetsOutside small inner (cell_in inner at.x at.y at.f)
  back_f p q at inside inside' e out filled =
      let on = of_inside m.size p inside in
      let on' = of_inside m.size q inside' in
      let ex : q.x ≡ p.x = sym (ap (λ r. r.x) e ∙ sx.stays q.x on'.x) in
      let on_x = on_same wrap.x m.size.w placement.rect.corner.x placement.rect.size.w p.x q.x at.x ex (ap (λ s. s.x) at.step_is) at.counts.column in
      let at_x = same_place wrap.x m.size.w placement.rect.corner.x (one_if (has_before wrap.x placement.rect.corner.x)) p.x q.x at.x ex (sx.place p.x at.x on.x (ap (λ s. s.x) at.step_is) at.counts.column) in
      let ey : q.y ≡ p.y = sym (ap (λ r. r.y) e ∙ sy.stays q.y on'.y) in
      let on_y = on_same wrap.y m.size.h placement.rect.corner.y placement.rect.size.h p.y q.y at.y ey (ap (λ s. s.y) at.step_is) at.counts.row in
      let at_y = same_place wrap.y m.size.h placement.rect.corner.y (one_if (has_before wrap.y placement.rect.corner.y)) p.y q.y at.y ey (sy.place p.y at.y on.y (ap (λ s. s.y) at.step_is) at.counts.row) in
      ⊎_elim (λ step_on. absurd (out (in_tile q inside' on_x on_y step_on)))
      (λ found. meets_at (cell_in inner at.x at.y at.f) (spot (one_if (has_before wrap.x placement.rect.corner.x) + at.x) (one_if (has_before wrap.y placement.rect.corner.y) + at.y) (one_if (has_before wrap.f placement.rect.corner.f) - 1)) q
      (inside_of size (spot (one_if (has_before wrap.x placement.rect.corner.x) + at.x) (one_if (has_before wrap.y placement.rect.corner.y) + at.y) (one_if (has_before wrap.f placement.rect.corner.f) - 1)) (record { x = in_size (one_if (has_before wrap.x placement.rect.corner.x)) placement.rect.size.w size.w at.x sx.room at.counts.column; y = in_size (one_if (has_before wrap.y placement.rect.corner.y)) placement.rect.size.h size.h at.y sy.room at.counts.row; f = on_axis_some size.f (pos (one_if (has_before wrap.f placement.rect.corner.f) - 1)) (omega (arith, ints)) (omega (arith, ints, found.0, sf.room, at.counts.frame)) }))
      (λ k. record { x = at_x k; y = at_y k; f = (ap (coordinate wrap.f m.size.f placement.rect.corner.f (one_if (has_before wrap.f placement.rect.corner.f))) (less_one (one_if (has_before wrap.f placement.rect.corner.f)) found.0) ∙ sym found.2) k })
      (record { axis = F; next = inr (λ k. record { x = sym (none_two (one_if (has_before wrap.x placement.rect.corner.x)) at.x) k; y = sym (none_two (one_if (has_before wrap.y placement.rect.corner.y)) at.y) k; f = back_one (one_if (has_before wrap.f placement.rect.corner.f)) at.f found.0 found.1 k }) }) out filled)
      (sf.back p.f q.f at.f on.f on'.f (ap (λ r. r.f) e) (ap (λ s. s.f) at.step_is) at.counts.frame)

  meets : (p q : At) → (at : IsTileCell p) → IsInside m.size p → IsInside m.size q → AreNeighboursAround wrap m.size p q → (IsInTile wrap m.size placement.rect q → ⊥) → IsFilled m q → MeetsOutside small inner (cell_in inner at.x at.y at.f)
  meets p q at inside inside' beside out filled = by beside.axis beside.next
    where
      by : (axis : Axis) → Follows wrap m.size axis p q ⊎ Follows wrap m.size axis q p → MeetsOutside small inner (cell_in inner at.x at.y at.f)
      by X (inl e) = ahead_x p q at inside inside' e out filled
      by Y (inl e) = ahead_y p q at inside inside' e out filled
      by F (inl e) = ahead_f p q at inside inside' e out filled
      by X (inr e) = back_x p q at inside inside' e out filled
      by Y (inr e) = back_y p q at inside inside' e out filled
      by F (inr e) = back_f p q at inside inside' e out filled

  kept_small : (p : At) → (kept : IsKeptAround m wrap placement.rect p) → let at = tile_cell p kept.inside in IsKept small inner (cell_in inner at.x at.y at.f)
  kept_small p kept =
      let at = tile_cell p kept.inside in
      let in_ = cell_inside inner at.x at.y at.f at.counts in
      record {
        inside = in_;
        filled = subst IsSome (sym (source_is (cell_in inner at.x at.y at.f) (box_inside (cell_in inner at.x at.y at.f) in_))) (subst (IsFilled m) at.cell_is kept.filled);
        meets = meets p kept.other at kept.inside.inside (filled_inside m kept.other kept.other_filled) kept.beside kept.outside kept.other_filled;
      }

  -- and a choice that is admissible in the small canvas is admissible on the torus
  pub lawful_around : (choice : List Bool) → IsLawful small (small_placement wrap placement) choice → IsLawfulAround m wrap placement choice
  lawful_around choice lawful = record {
    unfilled = λ p tile none.
        let at = tile_cell p tile in
        let in_ = cell_inside inner at.x at.y at.f at.counts in
        let inside = box_inside (cell_in inner at.x at.y at.f) in_ in
        subst (λ p. is_new_around wrap m.size placement choice p ≡ true) (sym at.cell_is)
        (new_is choice (cell_in inner at.x at.y at.f) (one_step (cell_in inner at.x at.y at.f) inside)
        ∙ lawful.unfilled (cell_in inner at.x at.y at.f) in_ (source_is (cell_in inner at.x at.y at.f) inside ∙ ap (map_at m) (sym at.cell_is) ∙ none));
    kept = λ p kept.
        let at = tile_cell p kept.inside in
        let in_ = cell_inside inner at.x at.y at.f at.counts in
        let inside = box_inside (cell_in inner at.x at.y at.f) in_ in
        subst (λ p. is_new_around wrap m.size placement choice p ≡ false) (sym at.cell_is)
        (new_is choice (cell_in inner at.x at.y at.f) (one_step (cell_in inner at.x at.y at.f) inside) ∙ lawful.kept (cell_in inner at.x at.y at.f) (kept_small p kept));
  }
