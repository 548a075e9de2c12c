-- The box of the next patch: it takes a run of each axis, leaves a cell of each wrapped one out, has the first
-- unfilled cell, and has a small canvas.
use Rattle.std.proofs.Common.{◌≡◌, ℕ, ◌+◌, ◌-◌, ◌*◌, ◌<◌, ◌≤◌, inl, inr, min, refl, ap, sym, ◌∙◌, subst, arith, Bool, true, false}
use Rattle.std.proofs.Math.Nat.{mul-le-mul}
use Rattle.std.proofs.lemmas.Int.{ints}
use Rattle.std.specs.Prelude.{ℤ, pos, negsuc, ◌+ℤ◌, ◌-ℤ◌, ◌≤ℤ◌, ◌<ℤ◌, nat_lt, IsSome}
use borrow.Author.Tests.{ltb-true}
use Rattle.cells.specs.declared.place.At.{At}
use Rattle.cells.specs.declared.place.Size.{Size}
use Rattle.cells.specs.declared.place.Box3.{Box3}
use Rattle.cells.specs.Boxes.{HoldsBox}
use Rattle.cells.specs.Cells.{Cells}
use Rattle.cells.specs.Places.{IsInside, IsSmall, cell_count, on_axis}
use Rattle.cells.proofs.BoxTests.{inside_of, of_inside, on_axis_bounds, on_axis_some}
use Rattle.boxes.specs.Spans.{at_least_0, patch_corner, patch_len}
use Rattle.boxes.proofs.SpanLaws.{patch_fits}
use Rattle.boxes.specs.Pairs.{one_if}
use Rattle.job_words.specs.declared.tile.TilePlan.{TilePlan}
use Rattle.job_words.specs.declared.tile.Wrap.{Wrap}
use Rattle.job_words.specs.TileWords.{IsWide}
use Rattle.torus.specs.Boxes.{tile_box, tile_corner, tile_len}
use Rattle.torus.specs.Filling.{IsTileBox}
use Rattle.torus.specs.Tiles.{AxisTakes, IsInTile, Takes, has_before, small_axis, small_box, small_size}
use Rattle.torus.specs.Wraps.{around_axis, on_turn}
use Rattle.torus.proofs.Axes.{IsApart, IsTurned, turn_is, turned}
use Rattle.torus.proofs.SmallAxes.{small_axis_of}

-- one axis of a box that is laid for a coordinate q
pub record IsTileAxis (wrapped : Bool) (n S : ℕ) (corner : ℤ) (len : ℕ) (q : ℤ) : Type 0 where
  pub takes : AxisTakes wrapped n corner len
  pub some : 1 ≤ len
  pub room : len ≤ S
  pub covers : IsSome (on_axis len (around_axis wrapped n (q -ℤ corner)))
  pub small_some : 1 ≤ small_axis wrapped n corner len
  pub small_few : small_axis wrapped n corner len ≤ 4096
  pub small_twice : small_axis wrapped n corner len ≤ 2 * n

-- a wrapped axis: the box begins O cells before q, around
module _ (n S q len O : ℕ) (below : q < n) (some : 1 ≤ len) (room : len ≤ S) (less : len < n) (few : len ≤ 4094) (shared : O < len) where
  at : IsTurned n (pos q -ℤ pos O) (on_turn n (pos q -ℤ pos O))
  at = turned n (pos q -ℤ pos O) (omega (arith, ints)) (omega (arith, ints))

  step_apart : (r : ℤ) → IsApart n r (pos q -ℤ pos O) → IsApart n (pos O) (pos q -ℤ r)
  step_apart r (inl e) = inl (omega (arith, ints))
  step_apart r (inr (inl e)) = inr (inl (omega (arith, ints)))
  step_apart r (inr (inr e)) = inr (inr (omega (arith, ints)))

  step_is : on_turn n (pos q -ℤ on_turn n (pos q -ℤ pos O)) ≡ pos O
  step_is = turn_is n (pos q -ℤ on_turn n (pos q -ℤ pos O)) (pos O) (omega (arith, ints, at.from, at.to)) (omega (arith, ints, at.from, at.to)) (omega (arith, ints)) (omega (arith, ints)) (step_apart (on_turn n (pos q -ℤ pos O)) at.by)

  wrapped_axis : IsTileAxis true n S (on_turn n (pos q -ℤ pos O)) len (pos q)
  wrapped_axis = record {
    takes = (at.from, at.to, less);
    some = some;
    room = room;
    covers = subst (λ z. IsSome (on_axis len z)) (sym step_is) (on_axis_some len (pos O) (omega (arith, ints)) (omega (arith, ints)));
    small_some = omega arith;
    small_few = omega arith;
    small_twice = omega arith;
  }

-- an axis that isn't wrapped
lt_room : (a b : ℕ) → a ≤ b → a + one_if (nat_lt a b) ≤ b
lt_room a b le = by (nat_lt a b) refl
  where
    by : (t : Bool) → nat_lt a b ≡ t → a + one_if (nat_lt a b) ≤ b
    by true e = let lt : a < b = ltb-true a b e in omega (arith, lt, ap one_if e)
    by false e = omega (arith, le, ap one_if e)

module _ (n S q len c : ℕ) (some : 1 ≤ len) (room : len ≤ S) (few : n ≤ 4096) (inside : c + len ≤ n) (before : c ≤ q) (covers : q < c + len) where
  small_room : small_axis false n (pos c) len ≤ n
  small_room = omega (arith, lt_room 0 c (omega arith), lt_room (c + len) n inside)

  plain_axis : IsTileAxis false n S (pos c) len (pos q)
  plain_axis = record {
    takes = (omega (arith, ints), omega (arith, ints));
    some = some;
    room = room;
    covers = on_axis_some len (pos q -ℤ pos c) (omega (arith, ints)) (omega (arith, ints));
    small_some = omega (arith, some);
    small_few = omega (arith, small_room, few);
    small_twice = omega (arith, small_room);
  }

pub tile_axis : (wrapped : Bool) (n S side overlap : ℕ) (q : ℤ) → (wrapped ≡ true → 3 ≤ n) → 1 ≤ side → 1 ≤ S → n ≤ 4096 → pos 0 ≤ℤ q → q <ℤ pos n
    → IsTileAxis wrapped n S (tile_corner wrapped n (tile_len wrapped n S side) overlap (at_least_0 q)) (tile_len wrapped n S side) q
tile_axis wrapped n S side overlap (negsuc q) wide some part few from to = absurd (omega (arith, ints))
tile_axis true n S side overlap (pos q) wide some part few from to =
    let three : 3 ≤ n = wide refl in
    let below : q < n = omega (arith, ints) in
    by (tile_len true n S side) (min overlap (tile_len true n S side - 1)) below (omega (arith, three)) (omega arith) (omega (arith, three)) (omega arith) (omega (arith, three))
  where
    by : (len O : ℕ) → q < n → 1 ≤ len → len ≤ S → len < n → len ≤ 4094 → O < len → IsTileAxis true n S (on_turn n (pos q -ℤ pos O)) len (pos q)
    by len O below some room less few shared = wrapped_axis n S q len O below some room less few shared
tile_axis false n S side overlap (pos q) wide some part few from to =
    let below : q < n = omega (arith, ints) in
    let fits = patch_fits n S S side overlap q 0 some part (omega arith) below (omega (arith, part)) in
    plain_axis n S q (patch_len n S side) (patch_corner n (patch_len n S side) overlap q) fits.some (omega arith) few fits.inside fits.before fits.covers

-- the box in its small canvas
pub inner_holds : (wrap : Wrap) (output : Size) (rect : Box3) → Takes wrap output rect → HoldsBox (small_size wrap output rect) (small_box wrap rect).corner (small_box wrap rect).size
inner_holds wrap output rect takes =
    let x = small_axis_of wrap.x output.w rect.corner.x rect.size.w takes.x in
    let y = small_axis_of wrap.y output.h rect.corner.y rect.size.h takes.y in
    let f = small_axis_of wrap.f output.f rect.corner.f rect.size.f takes.f in
    record {
      x = record { from = low (one_if (has_before wrap.x rect.corner.x)); to = high (one_if (has_before wrap.x rect.corner.x)) rect.size.w (small_axis wrap.x output.w rect.corner.x rect.size.w) x.room };
      y = record { from = low (one_if (has_before wrap.y rect.corner.y)); to = high (one_if (has_before wrap.y rect.corner.y)) rect.size.h (small_axis wrap.y output.h rect.corner.y rect.size.h) y.room };
      f = record { from = low (one_if (has_before wrap.f rect.corner.f)); to = high (one_if (has_before wrap.f rect.corner.f)) rect.size.f (small_axis wrap.f output.f rect.corner.f rect.size.f) f.room };
    }
  where
    low : (a : ℕ) → pos 0 ≤ℤ pos a
    low a = omega (arith, ints)

    high : (a len s : ℕ) → a + len ≤ s → (pos a +ℤ pos len) ≤ℤ pos s
    high a len s le = omega (arith, ints)

module _ (plan : TilePlan) (output : Size) (sample : Cells) (q : At) (small : IsSmall output) (part : IsSmall sample.size) (inside : IsInside output q) (wide : IsWide plan.wrap output) (side : 1 ≤ plan.side)
    (cells : cell_count output ≤ 1048576) where
  abbrev rect : Box3
  rect = tile_box plan output sample.size q

  tx : IsTileAxis plan.wrap.x output.w sample.size.w rect.corner.x rect.size.w q.x
  tx = let b = on_axis_bounds output.w q.x (of_inside output q inside).x in tile_axis plan.wrap.x output.w sample.size.w plan.side plan.overlap q.x wide.columns side part.axes.w.0 small.axes.w.1 b.0 b.1

  ty : IsTileAxis plan.wrap.y output.h sample.size.h rect.corner.y rect.size.h q.y
  ty = let b = on_axis_bounds output.h q.y (of_inside output q inside).y in tile_axis plan.wrap.y output.h sample.size.h plan.side plan.overlap q.y wide.lines side part.axes.h.0 small.axes.h.1 b.0 b.1

  tf : IsTileAxis plan.wrap.f output.f sample.size.f rect.corner.f rect.size.f q.f
  tf = let b = on_axis_bounds output.f q.f (of_inside output q inside).f in tile_axis plan.wrap.f output.f sample.size.f plan.side plan.overlap q.f wide.frames side part.axes.f.0 small.axes.f.1 b.0 b.1

  pub tile_is_box : IsTileBox plan.wrap output sample rect
  tile_is_box = record {
    takes = record { x = tx.takes; y = ty.takes; f = tf.takes };
    some = record { w = tx.some; h = ty.some; f = tf.some };
    room = record { w = tx.room; h = ty.room; f = tf.room };
    small = record {
      axes = record { w = (tx.small_some, tx.small_few); h = (ty.small_some, ty.small_few); f = (tf.small_some, tf.small_few) };
      cells = few (small_size plan.wrap output rect) (mul-le-mul tx.small_twice (mul-le-mul ty.small_twice tf.small_twice));
    };
  }
    where
      few : (s : Size) → s.w * (s.h * s.f) ≤ 2 * output.w * (2 * output.h * (2 * output.f)) → cell_count s ≤ 33554432
      few s le =
          let turned : 2 * output.w * (2 * output.h * (2 * output.f)) ≡ 8 * (output.w * (output.h * output.f)) = grind arith in
          omega (arith, le, turned, cells)

  pub tile_covers : IsInTile plan.wrap output rect q
  tile_covers = record { inside = inside; step = inside_of rect.size _ (record { x = tx.covers; y = ty.covers; f = tf.covers }) }

-- the same of the box as the code has it
pub record IsTileAt (plan : TilePlan) (output : Size) (sample : Cells) (q : At) (rect : Box3) : Type 0 where
  pub is_box : rect ≡ tile_box plan output sample.size q
  pub tile : IsTileBox plan.wrap output sample rect
  pub covers : IsInTile plan.wrap output rect q

pub tile_at : (plan : TilePlan) (output : Size) (sample : Cells) (q : At) (size part : Size) (rect : Box3) → size ≡ output → part ≡ sample.size → rect ≡ tile_box plan size part q
    → IsSmall output → IsSmall sample.size → IsInside output q → IsWide plan.wrap output → 1 ≤ plan.side → cell_count output ≤ 1048576 → IsTileAt plan output sample q rect
tile_at plan output sample q size part rect size_is part_is made small whole inside wide side cells = record {
  is_box = here;
  tile = subst (IsTileBox plan.wrap output sample) (sym here) (tile_is_box plan output sample q small whole inside wide side cells);
  covers = subst (λ rect. IsInTile plan.wrap output rect q) (sym here) (tile_covers plan output sample q small whole inside wide side cells);
}
  where
    here : rect ≡ tile_box plan output sample.size q
    here = made ∙ (λ k. tile_box plan (size_is k) (part_is k) q)
