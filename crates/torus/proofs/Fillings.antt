-- A small canvas is filled cell by cell.
use Rattle.std.proofs.Common.{◌≡◌, ℕ, ◌+◌, ◌<◌, ◌≤◌, ◌⊎◌, inl, inr, ⊎_elim, refl, ap, sym, ◌∙◌, subst, arith, Bool, true, false, w32, to_z, of_z}
use Rattle.std.proofs.lemmas.Int.{ints, to_z-of_z}
use mir.Val.{SFits}
use Rattle.std.proofs.lemmas.Bool.{cases_eq, cases_lt}
use Rattle.std.specs.Prelude.{ℤ, pos, ◌+ℤ◌, ◌-ℤ◌, ◌≤ℤ◌, ◌<ℤ◌, Some, None, is_some, unwrap_or}
use Rattle.cells.specs.declared.place.At.{At}
use Rattle.cells.specs.declared.place.Box3.{Box3}
use Rattle.cells.specs.declared.place.Size.{Size}
use Rattle.cells.specs.Places.{IsInside, cell_count, index_in, place_of}
use Rattle.cells.proofs.BoxTests.{of_inside, on_axis_bounds}
use Rattle.cells.proofs.SizeLaws.{near_back}
use Rattle.cells.proofs.Raster.{has_index, index_below, one_place, place_at}
use Rattle.map_canvas.specs.Maps.{SourceMap, IsMap, empty_map, map_at}
use Rattle.map_canvas.proofs.EmptyAndFull.{map_at-empty}
use Rattle.job_words.specs.declared.tile.Wrap.{Wrap}
use Rattle.torus.specs.Filling.{IsFilledTo, IsNamedAt}
use Rattle.boxes.specs.Pairs.{one_if}
use Rattle.torus.specs.Tiles.{AxisTakes, IsSmallMap, Takes, has_before, output_cell, small_axis, small_size}
use Rattle.torus.specs.Wraps.{around_axis}

pub index_is : (m : SourceMap) (i : ℕ) → IsMap m → i < cell_count m.size → index_in m.size (place_of m.size i) ≡ Some i
index_is m i is lt = place_at m.size i is.small.axes.w.0 is.small.axes.h.0 lt

pub inside_is : (m : SourceMap) (i : ℕ) → IsMap m → i < cell_count m.size → IsInside m.size (place_of m.size i)
inside_is m i is lt = ap is_some (index_is m i is lt)

some_one : (i j : ℕ) → Some i ≡ Some j → i ≡ j
some_one i j e = cc

module _ (m : SourceMap) (wrap : Wrap) (rect : Box3) (small : SourceMap) (i : ℕ) (is : IsMap small) (filled : IsFilledTo m wrap rect i small) (lt : i < cell_count small.size) where
  -- a place of another index is another place
  other_place : (q : At) (j : ℕ) → index_in small.size q ≡ Some j → (j ≡ i → ⊥) → q ≡ place_of small.size i → ⊥
  other_place q j e other same = other (some_one j i (sym e ∙ ap (index_in small.size) same ∙ index_is small i is lt))

  pub fill_more : (from : At) (after : SourceMap) → IsNamedAt small (place_of small.size i) from after → map_at m (output_cell wrap m.size rect (place_of small.size i)) ≡ Some from → IsFilledTo m wrap rect (i + 1) after
  fill_more from after named source = record {
    size = named.size ∙ filled.size;
    filled = λ q j e below. at q j (subst (λ s. index_in s q ≡ Some j) named.size e) below (cases_eq j i);
    unfilled = λ q j e above.
        let e' = subst (λ s. index_in s q ≡ Some j) named.size e in
        named.others q (other_place q j e' (λ same. omega arith)) ∙ filled.unfilled q j e' (omega arith);
  }
    where
      at : (q : At) (j : ℕ) → index_in small.size q ≡ Some j → j < i + 1 → (j ≡ i) ⊎ (j ≡ i → ⊥) → map_at after q ≡ map_at m (output_cell wrap m.size rect q)
      at q j e below (inl same) =
          let here : q ≡ place_of small.size i = one_place small.size q (place_of small.size i) i (e ∙ ap Some same) (index_is small i is lt) in
          ap (map_at after) here ∙ named.here ∙ sym source ∙ ap (λ p. map_at m (output_cell wrap m.size rect p)) (sym here)
      at q j e below (inr other) = named.others q (other_place q j e other) ∙ filled.filled q j e (less other)
        where
          less : (j ≡ i → ⊥) → j < i
          less other = ⊎_elim (λ lt. lt) (λ le. absurd (other (omega arith))) (cases_lt j i)

  pub fill_none : map_at m (output_cell wrap m.size rect (place_of small.size i)) ≡ None → IsFilledTo m wrap rect (i + 1) small
  fill_none source = record {
    size = filled.size;
    filled = λ q j e below. at q j e below (cases_eq j i);
    unfilled = λ q j e above. filled.unfilled q j e (omega arith);
  }
    where
      at : (q : At) (j : ℕ) → index_in small.size q ≡ Some j → j < i + 1 → (j ≡ i) ⊎ (j ≡ i → ⊥) → map_at small q ≡ map_at m (output_cell wrap m.size rect q)
      at q j e below (inl same) =
          let here : q ≡ place_of small.size i = one_place small.size q (place_of small.size i) i (e ∙ ap Some same) (index_is small i is lt) in
          filled.unfilled q j e (omega arith) ∙ sym source ∙ ap (λ p. map_at m (output_cell wrap m.size rect p)) (sym here)
      at q j e below (inr other) = filled.filled q j e (less other)
        where
          less : (j ≡ i → ⊥) → j < i
          less other = ⊎_elim (λ lt. lt) (λ le. absurd (other (omega arith))) (cases_lt j i)

pub fill_first : (m : SourceMap) (wrap : Wrap) (rect : Box3) → IsFilledTo m wrap rect 0 (empty_map (small_size wrap m.size rect))
fill_first m wrap rect = record {
  size = refl;
  filled = λ p i e lt. absurd (omega arith);
  unfilled = λ p i e le. map_at-empty (small_size wrap m.size rect) p;
}

pub fill_all : (m : SourceMap) (wrap : Wrap) (rect : Box3) (small : SourceMap) (n : ℕ) → cell_count small.size ≤ n → IsFilledTo m wrap rect n small → IsSmallMap m wrap rect small
fill_all m wrap rect small n le filled = record {
  size = filled.size;
  sources = λ p inside.
      let i = unwrap_or (index_in small.size p) 0 in
      let e : index_in small.size p ≡ Some i = has_index (index_in small.size p) 0 inside in
      filled.filled p i e (omega (arith, le, index_below small.size p i e));
}

-- what the sums of coordinates ask for
pub takes_near : (wrapped : Bool) (n : ℕ) (corner : ℤ) (len : ℕ) → AxisTakes wrapped n corner len → n ≤ 4096 → (pos 0 ≤ℤ corner) × (corner ≤ℤ pos 4096) × (len ≤ 4096)
takes_near true n corner len takes le = (takes.0, omega (arith, ints, takes.1), omega (arith, takes.2))
takes_near false n corner len takes le = (takes.0, omega (arith, ints, takes.1), omega (arith, ints, takes.0, takes.1))

-- what is asked of an axis of the small canvas, and its size
pub axis_near : (wrapped : Bool) (n : ℕ) (corner : ℤ) (len : ℕ) → AxisTakes wrapped n corner len → n ≤ 4096 → (pos 0 ≤ℤ to_z w32 (of_z w32 corner)) × (to_z w32 (of_z w32 corner) ≤ℤ pos 4096) × (len ≤ 4096)
axis_near wrapped n corner len takes le =
    let near = takes_near wrapped n corner len takes le in
    rw (near_back corner near.0 (omega (arith, ints, near.1))) near

axis_is : (wrapped : Bool) (n : ℕ) (corner : ℤ) (len s : ℕ) → AxisTakes wrapped n corner len → n ≤ 4096 → s ≡ small_axis wrapped n (to_z w32 (of_z w32 corner)) len → s ≡ small_axis wrapped n corner len
axis_is wrapped n corner len s takes le is =
    let near = takes_near wrapped n corner len takes le in
    is ∙ ap (λ z. small_axis wrapped n z len) (near_back corner near.0 (omega (arith, ints, near.1)))

pub small_size_is : (m : SourceMap) (wrap : Wrap) (rect : Box3) (w h f : ℕ) → IsMap m → Takes wrap m.size rect
    → w ≡ small_axis wrap.x m.size.w (to_z w32 (of_z w32 rect.corner.x)) rect.size.w → h ≡ small_axis wrap.y m.size.h (to_z w32 (of_z w32 rect.corner.y)) rect.size.h
    → f ≡ small_axis wrap.f m.size.f (to_z w32 (of_z w32 rect.corner.f)) rect.size.f → record { w = w; h = h; f = f } ≡ small_size wrap m.size rect
small_size_is m wrap rect w h f is takes ew eh ef = λ k. record {
  w = axis_is wrap.x m.size.w rect.corner.x rect.size.w w takes.x is.small.axes.w.1 ew k;
  h = axis_is wrap.y m.size.h rect.corner.y rect.size.h h takes.y is.small.axes.h.1 eh k;
  f = axis_is wrap.f m.size.f rect.corner.f rect.size.f f takes.f is.small.axes.f.1 ef k;
}

-- coordinates that are near come back from 32 bits as they are
near_too : (corner z : ℤ) (n : ℕ) → pos 0 ≤ℤ corner → corner ≤ℤ pos 4096 → pos 0 ≤ℤ z → z <ℤ pos 4096 → n ≤ 4096
    → (pos 0 ≤ℤ to_z w32 (of_z w32 corner)) × (to_z w32 (of_z w32 corner) ≤ℤ pos 4096) × (pos 0 ≤ℤ to_z w32 (of_z w32 z)) × (to_z w32 (of_z w32 z) <ℤ pos 4096) × (n ≤ 4096)
near_too corner z n from to from' to' le = rw (near_back corner from (omega (arith, ints, to)), near_back z from' (omega (arith, ints, to'))) (from, to, from', to', le)

output_back : (wrapped : Bool) (n : ℕ) (corner z at : ℤ) → pos 0 ≤ℤ corner → corner ≤ℤ pos 4096 → pos 0 ≤ℤ z → z <ℤ pos 4096 → SFits w32 at
    → at ≡ around_axis wrapped n (to_z w32 (of_z w32 corner) +ℤ (to_z w32 (of_z w32 z) -ℤ pos (one_if (has_before wrapped (to_z w32 (of_z w32 corner))))))
    → to_z w32 (of_z w32 at) ≡ around_axis wrapped n (corner +ℤ (z -ℤ pos (one_if (has_before wrapped corner))))
output_back wrapped n corner z at from to from' to' fits is =
    to_z-of_z w32 at fits ∙ is
    ∙ (λ k. around_axis wrapped n (near_back corner from (omega (arith, ints, to)) k +ℤ (near_back z from' (omega (arith, ints, to')) k -ℤ pos (one_if (has_before wrapped (near_back corner from (omega (arith, ints, to)) k))))))

pub near_inside : (m : SourceMap) (p : At) → IsMap m → IsInside m.size p → ((pos 0 ≤ℤ p.x) × (p.x <ℤ pos 4096)) × ((pos 0 ≤ℤ p.y) × (p.y <ℤ pos 4096)) × ((pos 0 ≤ℤ p.f) × (p.f <ℤ pos 4096))
near_inside m p is inside =
    let on = of_inside m.size p inside in
    let x = on_axis_bounds m.size.w p.x on.x in
    let y = on_axis_bounds m.size.h p.y on.y in
    let f = on_axis_bounds m.size.f p.f on.f in
    ((x.0, omega (arith, ints, x.1, is.small.axes.w.1)), (y.0, omega (arith, ints, y.1, is.small.axes.h.1)), (f.0, omega (arith, ints, f.1, is.small.axes.f.1)))

-- the cell of the output that the small canvas's cell of an index stands for, coordinate by coordinate
module _ (m : SourceMap) (wrap : Wrap) (rect : Box3) (small : SourceMap) (i : ℕ) (whole : IsMap m) (takes : Takes wrap m.size rect) (is : IsMap small) (lt : i < cell_count small.size) (size : Size) (p : At) (size_is : size ≡ m.size) (p_is : p ≡ place_of small.size i) where
  near_p : ((pos 0 ≤ℤ p.x) × (p.x <ℤ pos 4096)) × ((pos 0 ≤ℤ p.y) × (p.y <ℤ pos 4096)) × ((pos 0 ≤ℤ p.f) × (p.f <ℤ pos 4096))
  near_p = near_inside small p is (subst (IsInside small.size) (sym p_is) (inside_is small i is lt))

  near_x : (pos 0 ≤ℤ rect.corner.x) × (rect.corner.x ≤ℤ pos 4096) × (rect.size.w ≤ 4096)
  near_x = takes_near wrap.x m.size.w rect.corner.x rect.size.w takes.x whole.small.axes.w.1

  near_y : (pos 0 ≤ℤ rect.corner.y) × (rect.corner.y ≤ℤ pos 4096) × (rect.size.h ≤ 4096)
  near_y = takes_near wrap.y m.size.h rect.corner.y rect.size.h takes.y whole.small.axes.h.1

  near_f : (pos 0 ≤ℤ rect.corner.f) × (rect.corner.f ≤ℤ pos 4096) × (rect.size.f ≤ 4096)
  near_f = takes_near wrap.f m.size.f rect.corner.f rect.size.f takes.f whole.small.axes.f.1

  pub fill_x : (pos 0 ≤ℤ to_z w32 (of_z w32 rect.corner.x)) × (to_z w32 (of_z w32 rect.corner.x) ≤ℤ pos 4096) × (pos 0 ≤ℤ to_z w32 (of_z w32 p.x)) × (to_z w32 (of_z w32 p.x) <ℤ pos 4096) × (size.w ≤ 4096)
  fill_x = near_too rect.corner.x p.x size.w near_x.0 near_x.1 near_p.0.0 near_p.0.1 (subst (λ (s : Size). s.w ≤ 4096) (sym size_is) whole.small.axes.w.1)

  pub fill_y : (pos 0 ≤ℤ to_z w32 (of_z w32 rect.corner.y)) × (to_z w32 (of_z w32 rect.corner.y) ≤ℤ pos 4096) × (pos 0 ≤ℤ to_z w32 (of_z w32 p.y)) × (to_z w32 (of_z w32 p.y) <ℤ pos 4096) × (size.h ≤ 4096)
  fill_y = near_too rect.corner.y p.y size.h near_y.0 near_y.1 near_p.1.0 near_p.1.1 (subst (λ (s : Size). s.h ≤ 4096) (sym size_is) whole.small.axes.h.1)

  pub fill_f : (pos 0 ≤ℤ to_z w32 (of_z w32 rect.corner.f)) × (to_z w32 (of_z w32 rect.corner.f) ≤ℤ pos 4096) × (pos 0 ≤ℤ to_z w32 (of_z w32 p.f)) × (to_z w32 (of_z w32 p.f) <ℤ pos 4096) × (size.f ≤ 4096)
  fill_f = near_too rect.corner.f p.f size.f near_f.0 near_f.1 near_p.2.0 near_p.2.1 (subst (λ (s : Size). s.f ≤ 4096) (sym size_is) whole.small.axes.f.1)

  abbrev moved_on : Bool → ℕ → ℤ → ℤ → ℤ
  moved_on wrapped n corner z = around_axis wrapped n (to_z w32 (of_z w32 corner) +ℤ (to_z w32 (of_z w32 z) -ℤ pos (one_if (has_before wrapped (to_z w32 (of_z w32 corner))))))

  pub fill_at_is : (x y f : ℤ) → SFits w32 x → SFits w32 y → SFits w32 f
      → x ≡ moved_on wrap.x size.w rect.corner.x p.x → y ≡ moved_on wrap.y size.h rect.corner.y p.y → f ≡ moved_on wrap.f size.f rect.corner.f p.f
      → record { x = to_z w32 (of_z w32 x); y = to_z w32 (of_z w32 y); f = to_z w32 (of_z w32 f) } ≡ output_cell wrap m.size rect (place_of small.size i)
  fill_at_is x y f fx fy ff ex ey ef =
      (λ k. record {
        x = output_back wrap.x size.w rect.corner.x p.x x near_x.0 near_x.1 near_p.0.0 near_p.0.1 fx ex k;
        y = output_back wrap.y size.h rect.corner.y p.y y near_y.0 near_y.1 near_p.1.0 near_p.1.1 fy ey k;
        f = output_back wrap.f size.f rect.corner.f p.f f near_f.0 near_f.1 near_p.2.0 near_p.2.1 ff ef k;
      }) ∙ (λ k. output_cell wrap (size_is k) rect (p_is k))
