-- A choice is put into the output cell by cell, around the edges.
use Rattle.std.proofs.Common.{◌≡◌, ℕ, ◌+◌, ◌/◌, ◌%◌, ◌<◌, ◌≤◌, ◌⊎◌, inl, inr, ⊎_elim, refl, ap, sym, ◌∙◌, subst, arith, Bool, true, false, List, w32, to_z, of_z}
use Rattle.std.proofs.lemmas.Int.{ints, to_z-of_z}
use mir.Val.{SFits}
use Rattle.std.proofs.lemmas.Bool.{cases_eq, cases_lt}
use Rattle.std.specs.Prelude.{ℤ, pos, ◌+ℤ◌, ◌-ℤ◌, ◌≤ℤ◌, Option, Some, None, IsSome, slice_index_or, if◌then◌else◌}
use Rattle.cells.specs.declared.place.At.{At}
use Rattle.cells.specs.declared.place.Size.{Size}
use Rattle.cells.specs.declared.place.Box3.{Box3}
use Rattle.cells.specs.Boxes.{HasCells}
use Rattle.cells.specs.Places.{IsInside, IsSmall, cell_count, index_in, on_axis, place_of, plus}
use Rattle.std.proofs.Math.Nat.{mul-le-mul}
use Rattle.cells.proofs.BoxLaws.{step_of as step_counts}
use Rattle.cells.proofs.BoxTests.{inside_of, of_inside, on_axis_some}
use Rattle.cells.proofs.SizeLaws.{near_back}
use Rattle.cells.proofs.Raster.{index_below, one_place, place_at}
use Rattle.boxes.specs.Pairs.{one_if}
use Rattle.map_canvas.specs.declared.canvas.Placement.{Placement}
use Rattle.map_canvas.specs.Maps.{SourceMap, map_at}
use Rattle.map_canvas.specs.Choices.{chosen}
use Rattle.job_words.specs.declared.tile.Wrap.{Wrap}
use Rattle.torus.specs.Filling.{IsNamedAt, IsPutTo}
use Rattle.torus.specs.Tiles.{AxisTakes, IsAfterAround, Takes, after_around, has_before, small_axis, step_around}
use Rattle.torus.specs.Wraps.{around, around_axis}
use Rattle.torus.proofs.Axes.{SameStep}
use Rattle.torus.proofs.Fillings.{takes_near}
use Rattle.torus.proofs.SmallAxes.{IsSmallAxis, coordinate, small_axis_of, step_of}

-- one axis: a step from the corner, taken around, is that step again, and a coordinate is where its step leads
pub record IsBack (wrapped : Bool) (n : ℕ) (corner : ℤ) (len : ℕ) : Type 0 where
  pub on : (x : ℕ) → x < len → IsSome (on_axis n (around_axis wrapped n (corner +ℤ pos x)))
  pub step : (x : ℕ) → x < len → step_of wrapped n corner (around_axis wrapped n (corner +ℤ pos x)) ≡ pos x
  pub place : (q : ℤ) (x : ℕ) → IsSome (on_axis n q) → step_of wrapped n corner q ≡ pos x → x < len → q ≡ around_axis wrapped n (corner +ℤ pos x)

pub back_of : (wrapped : Bool) (n : ℕ) (corner : ℤ) (len : ℕ) → AxisTakes wrapped n corner len → IsBack wrapped n corner len
back_of wrapped n corner len takes = record {
  on = λ x lt. subst (λ z. IsSome (on_axis n (around_axis wrapped n (corner +ℤ z)))) (moved a x) (s.on (a + x) (omega (arith, lt, s.room)));
  step = λ x lt. ap (λ z. step_of wrapped n corner (around_axis wrapped n (corner +ℤ z))) (sym (moved a x)) ∙ known x lt (s.steps (a + x) (omega (arith, lt, s.room)));
  place = λ q x on e lt. s.place q x on e lt ∙ ap (λ z. around_axis wrapped n (corner +ℤ z)) (moved_too a x);
}
  where
    a : ℕ
    a = one_if (has_before wrapped corner)

    s : IsSmallAxis wrapped n corner len (one_if (has_before wrapped corner)) (small_axis wrapped n corner len)
    s = small_axis_of wrapped n corner len takes

    moved : (a x : ℕ) → pos (a + x) -ℤ pos a ≡ pos x
    moved a x = omega (arith, ints)

    moved_too : (a x : ℕ) → (pos a +ℤ pos x) -ℤ pos a ≡ pos x
    moved_too a x = omega (arith, ints)

    known : (x : ℕ) → x < len → SameStep len (step_of wrapped n corner (coordinate wrapped n corner a (pos (a + x)))) (pos (a + x) -ℤ pos a) → step_of wrapped n corner (coordinate wrapped n corner a (pos (a + x))) ≡ pos x
    known x lt (inl e) = e ∙ moved a x
    known x lt (inr off) = absurd (off.1 (on_axis_some len (pos (a + x) -ℤ pos a) (omega (arith, ints)) (omega (arith, ints))))

-- the box is no greater than the output
len_below : (wrapped : Bool) (n : ℕ) (corner : ℤ) (len : ℕ) → AxisTakes wrapped n corner len → len ≤ n
len_below true n corner len takes = omega (arith, takes.2)
len_below false n corner len takes = omega (arith, ints, takes.0, takes.1)

pub small_takes : (wrap : Wrap) (size : Size) (rect : Box3) → Takes wrap size rect → HasCells rect.size → IsSmall size → IsSmall rect.size
small_takes wrap size rect takes some small =
    let w = len_below wrap.x size.w rect.corner.x rect.size.w takes.x in
    let h = len_below wrap.y size.h rect.corner.y rect.size.h takes.y in
    let f = len_below wrap.f size.f rect.corner.f rect.size.f takes.f in
    record {
      axes = record {
        w = (some.w, omega (arith, w, small.axes.w));
        h = (some.h, omega (arith, h, small.axes.h));
        f = (some.f, omega (arith, f, small.axes.f));
      };
      cells = omega (arith, small.cells, mul-le-mul w (mul-le-mul h f));
    }

-- coordinates that are near come back from 32 bits as they are
abbrev IsNear : ℤ → ℤ → ℕ → Type 0
IsNear corner z n = (pos 0 ≤ℤ to_z w32 (of_z w32 corner)) × (to_z w32 (of_z w32 corner) ≤ℤ pos 4096) × (pos 0 ≤ℤ to_z w32 (of_z w32 z)) × (to_z w32 (of_z w32 z) ≤ℤ pos 4096) × (n ≤ 4096)

near_too : (corner z : ℤ) (n : ℕ) → pos 0 ≤ℤ corner → corner ≤ℤ pos 4096 → pos 0 ≤ℤ z → z ≤ℤ pos 4096 → n ≤ 4096 → IsNear corner z n
near_too corner z n from to from' to' le = rw (near_back corner from (omega (arith, ints, to)), near_back z from' (omega (arith, ints, to'))) (from, to, from', to', le)

-- the step of an index of the box, and what comes back from 32 bits of it
module _ (wrap : Wrap) (size : Size) (rect : Box3) (i : ℕ) (takes : Takes wrap size rect) (some : HasCells rect.size) (whole : IsSmall size) (lt : i < cell_count rect.size) (n : Size) (step : At) (size_is : n ≡ size) (step_is : step ≡ place_of rect.size i) where
  small : IsSmall rect.size
  small = small_takes wrap size rect takes some whole

  near : (a b : ℕ) → a < b → b ≤ 4096 → (pos 0 ≤ℤ pos a) × (pos a ≤ℤ pos 4096)
  near a b lt le = (omega (arith, ints), omega (arith, ints))

  near_x : (pos 0 ≤ℤ step.x) × (step.x ≤ℤ pos 4096)
  near_x = rw step_is (near (i % rect.size.w) rect.size.w (step_counts rect.size i some lt).x small.axes.w.1)

  near_y : (pos 0 ≤ℤ step.y) × (step.y ≤ℤ pos 4096)
  near_y = rw step_is (near (i / rect.size.w % rect.size.h) rect.size.h (step_counts rect.size i some lt).y small.axes.h.1)

  near_f : (pos 0 ≤ℤ step.f) × (step.f ≤ℤ pos 4096)
  near_f = rw step_is (near (i / rect.size.w / rect.size.h) rect.size.f (step_counts rect.size i some lt).f small.axes.f.1)

  corner_x : (pos 0 ≤ℤ rect.corner.x) × (rect.corner.x ≤ℤ pos 4096) × (rect.size.w ≤ 4096)
  corner_x = takes_near wrap.x size.w rect.corner.x rect.size.w takes.x whole.axes.w.1

  corner_y : (pos 0 ≤ℤ rect.corner.y) × (rect.corner.y ≤ℤ pos 4096) × (rect.size.h ≤ 4096)
  corner_y = takes_near wrap.y size.h rect.corner.y rect.size.h takes.y whole.axes.h.1

  corner_f : (pos 0 ≤ℤ rect.corner.f) × (rect.corner.f ≤ℤ pos 4096) × (rect.size.f ≤ 4096)
  corner_f = takes_near wrap.f size.f rect.corner.f rect.size.f takes.f whole.axes.f.1

  pub put_x : IsNear rect.corner.x step.x n.w
  put_x = near_too rect.corner.x step.x n.w corner_x.0 corner_x.1 near_x.0 near_x.1 (subst (λ (s : Size). s.w ≤ 4096) (sym size_is) whole.axes.w.1)

  pub put_y : IsNear rect.corner.y step.y n.h
  put_y = near_too rect.corner.y step.y n.h corner_y.0 corner_y.1 near_y.0 near_y.1 (subst (λ (s : Size). s.h ≤ 4096) (sym size_is) whole.axes.h.1)

  pub put_f : IsNear rect.corner.f step.f n.f
  put_f = near_too rect.corner.f step.f n.f corner_f.0 corner_f.1 near_f.0 near_f.1 (subst (λ (s : Size). s.f ≤ 4096) (sym size_is) whole.axes.f.1)

  abbrev moved_on : Bool → ℕ → ℤ → ℤ → ℤ
  moved_on wrapped n corner z = around_axis wrapped n (to_z w32 (of_z w32 corner) +ℤ to_z w32 (of_z w32 z))

  put_back : (wrapped : Bool) (n : ℕ) (corner z at : ℤ) → pos 0 ≤ℤ corner → corner ≤ℤ pos 4096 → pos 0 ≤ℤ z → z ≤ℤ pos 4096 → SFits w32 at → at ≡ moved_on wrapped n corner z → to_z w32 (of_z w32 at) ≡ around_axis wrapped n (corner +ℤ z)
  put_back wrapped n corner z at from to from' to' fits is =
      to_z-of_z w32 at fits ∙ is ∙ (λ k. around_axis wrapped n (near_back corner from (omega (arith, ints, to)) k +ℤ near_back z from' (omega (arith, ints, to')) k))

  pub put_at_is : (x y f : ℤ) → SFits w32 x → SFits w32 y → SFits w32 f → x ≡ moved_on wrap.x n.w rect.corner.x step.x → y ≡ moved_on wrap.y n.h rect.corner.y step.y → f ≡ moved_on wrap.f n.f rect.corner.f step.f
      → record { x = to_z w32 (of_z w32 x); y = to_z w32 (of_z w32 y); f = to_z w32 (of_z w32 f) } ≡ around wrap size (plus rect.corner (place_of rect.size i))
  put_at_is x y f fx fy ff ex ey ef =
      (λ k. record {
        x = put_back wrap.x n.w rect.corner.x step.x x corner_x.0 corner_x.1 near_x.0 near_x.1 fx ex k;
        y = put_back wrap.y n.h rect.corner.y step.y y corner_y.0 corner_y.1 near_y.0 near_y.1 fy ey k;
        f = put_back wrap.f n.f rect.corner.f step.f f corner_f.0 corner_f.1 near_f.0 near_f.1 ff ef k;
      }) ∙ (λ k. around wrap (size_is k) (plus rect.corner (step_is k)))

module _ (m : SourceMap) (wrap : Wrap) (placement : Placement) (takes : Takes wrap m.size placement.rect) (some : HasCells placement.rect.size) where
  bx : IsBack wrap.x m.size.w placement.rect.corner.x placement.rect.size.w
  bx = back_of wrap.x m.size.w placement.rect.corner.x placement.rect.size.w takes.x

  by : IsBack wrap.y m.size.h placement.rect.corner.y placement.rect.size.h
  by = back_of wrap.y m.size.h placement.rect.corner.y placement.rect.size.h takes.y

  bf : IsBack wrap.f m.size.f placement.rect.corner.f placement.rect.size.f
  bf = back_of wrap.f m.size.f placement.rect.corner.f placement.rect.size.f takes.f

  -- the output's cell of an index of the box
  abbrev pub cell_of : ℕ → At
  cell_of i = around wrap m.size (plus placement.rect.corner (place_of placement.rect.size i))

  abbrev step : At → At
  step q = step_around wrap m.size placement.rect q

  pub cell_inside : (i : ℕ) → i < cell_count placement.rect.size → IsInside m.size (cell_of i)
  cell_inside i lt = let c = step_counts placement.rect.size i some lt in inside_of m.size (cell_of i) (record { x = bx.on _ c.x; y = by.on _ c.y; f = bf.on _ c.f })

  step_is : (i : ℕ) → i < cell_count placement.rect.size → step (cell_of i) ≡ place_of placement.rect.size i
  step_is i lt = let c = step_counts placement.rect.size i some lt in λ k. record { x = bx.step _ c.x k; y = by.step _ c.y k; f = bf.step _ c.f k }

  pub index_is : (i : ℕ) → i < cell_count placement.rect.size → index_in placement.rect.size (step (cell_of i)) ≡ Some i
  index_is i lt = ap (index_in placement.rect.size) (step_is i lt) ∙ place_at placement.rect.size i some.w some.h lt

  -- a cell with that index is that one
  cell_is : (q : At) (i : ℕ) → IsInside m.size q → i < cell_count placement.rect.size → index_in placement.rect.size (step q) ≡ Some i → q ≡ cell_of i
  cell_is q i inside lt e =
      let on = of_inside m.size q inside in
      let c = step_counts placement.rect.size i some lt in
      let s : step q ≡ place_of placement.rect.size i = one_place placement.rect.size (step q) (place_of placement.rect.size i) i e (place_at placement.rect.size i some.w some.h lt) in
      λ k. record { x = bx.place q.x _ on.x (ap (λ r. r.x) s) c.x k; y = by.place q.y _ on.y (ap (λ r. r.y) s) c.y k; f = bf.place q.f _ on.f (ap (λ r. r.f) s) c.f k }

  some_one : (i j : ℕ) → Some i ≡ Some j → i ≡ j
  some_one i j e = cc

  none_some : (i : ℕ) → ◌≡◌ {A = Option ℕ} None (Some i) → ⊥
  none_some i e = cc

  module _ (choice : List Bool) (i : ℕ) (before : SourceMap) (is : IsPutTo m wrap placement choice i before) (lt : i < cell_count placement.rect.size) where
    apart : (q : At) (j : ℕ) → index_in placement.rect.size (step q) ≡ Some j → (j ≡ i → ⊥) → q ≡ cell_of i → ⊥
    apart q j e other same = other (some_one j i (sym e ∙ ap (λ q. index_in placement.rect.size (step q)) same ∙ index_is i lt))

    less : (j : ℕ) → j < i + 1 → (j ≡ i → ⊥) → j < i
    less j below other = ⊎_elim (λ lt. lt) (λ le. absurd (other (omega arith))) (cases_lt j i)

    pub put_new : (after : SourceMap) → slice_index_or choice i false ≡ true → IsNamedAt before (cell_of i) (plus placement.from (place_of placement.rect.size i)) after → IsPutTo m wrap placement choice (i + 1) after
    put_new after new named = record {
      size = named.size ∙ is.size;
      put = λ q j inside e below. at q j inside e below (cases_eq j i);
      later = λ q j inside e above. named.others q (apart q j e (λ same. omega arith)) ∙ is.later q j inside e (omega arith);
      outside = λ q inside e. named.others q (λ same. none_some i (sym e ∙ ap (λ q. index_in placement.rect.size (step q)) same ∙ index_is i lt)) ∙ is.outside q inside e;
    }
      where
        at : (q : At) (j : ℕ) → IsInside m.size q → index_in placement.rect.size (step q) ≡ Some j → j < i + 1 → (j ≡ i) ⊎ (j ≡ i → ⊥) → map_at after q ≡ after_around m wrap placement choice q
        at q j inside e below (inl same) =
            let e' : index_in placement.rect.size (step q) ≡ Some i = e ∙ ap Some same in
            let here : q ≡ cell_of i = cell_is q i inside lt e' in
            ap (map_at after) here ∙ named.here
            ∙ ap (λ s. Some (plus placement.from s)) (sym (ap step here ∙ step_is i lt))
            ∙ sym (ap (λ o. if chosen choice o then Some (plus placement.from (step q)) else map_at m q) e' ∙ ap (λ b. if b then Some (plus placement.from (step q)) else map_at m q) new)
        at q j inside e below (inr other) = named.others q (apart q j e other) ∙ is.put q j inside e (less j below other)

    pub put_old : slice_index_or choice i false ≡ false → IsPutTo m wrap placement choice (i + 1) before
    put_old old = record {
      size = is.size;
      put = λ q j inside e below. at q j inside e below (cases_eq j i);
      later = λ q j inside e above. is.later q j inside e (omega arith);
      outside = is.outside;
    }
      where
        at : (q : At) (j : ℕ) → IsInside m.size q → index_in placement.rect.size (step q) ≡ Some j → j < i + 1 → (j ≡ i) ⊎ (j ≡ i → ⊥) → map_at before q ≡ after_around m wrap placement choice q
        at q j inside e below (inl same) =
            let e' : index_in placement.rect.size (step q) ≡ Some i = e ∙ ap Some same in
            is.later q j inside e (omega arith)
            ∙ sym (ap (λ o. if chosen choice o then Some (plus placement.from (step q)) else map_at m q) e' ∙ ap (λ b. if b then Some (plus placement.from (step q)) else map_at m q) old)
        at q j inside e below (inr other) = is.put q j inside e (less j below other)

  pub put_next : (choice : List Bool) (i : ℕ) (before after : SourceMap) → IsPutTo m wrap placement choice i before → i < cell_count placement.rect.size → (b : Bool) → slice_index_or choice i false ≡ b
      → (b ≡ true → IsNamedAt before (around wrap before.size (plus placement.rect.corner (place_of placement.rect.size i))) (plus placement.from (place_of placement.rect.size i)) after)
      → (b ≡ false → after ≡ before) → IsPutTo m wrap placement choice (i + 1) after
  put_next choice i before after is lt true e new old =
      put_new choice i before is lt after e (subst (λ s. IsNamedAt before (around wrap s (plus placement.rect.corner (place_of placement.rect.size i))) (plus placement.from (place_of placement.rect.size i)) after) is.size (new refl))
  put_next choice i before after is lt false e new old = subst (IsPutTo m wrap placement choice (i + 1)) (sym (old refl)) (put_old choice i before is lt e)

  pub put_first : (choice : List Bool) → IsPutTo m wrap placement choice 0 m
  put_first choice = record {
    size = refl;
    put = λ q j inside e lt. absurd (omega arith);
    later = λ q j inside e le. refl;
    outside = λ q inside e. refl;
  }

  pub put_all : (choice : List Bool) (n : ℕ) (after : SourceMap) → cell_count placement.rect.size ≤ n → IsPutTo m wrap placement choice n after → IsAfterAround m wrap placement choice after
  put_all choice n after le is = record { size = is.size; sources = λ q inside. at q inside (index_in placement.rect.size (step q)) refl }
    where
      at : (q : At) → IsInside m.size q → (o : Option ℕ) → index_in placement.rect.size (step q) ≡ o → map_at after q ≡ after_around m wrap placement choice q
      at q inside (Some j) e = is.put q j inside e (omega (arith, le, index_below placement.rect.size (step q) j e))
      at q inside None e = is.outside q inside e ∙ sym (ap (λ o. if chosen choice o then Some (plus placement.from (step q)) else map_at m q) e)
