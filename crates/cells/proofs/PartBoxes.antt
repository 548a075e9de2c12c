-- Boxes and runs along parts.
use Rattle.std.proofs.Common.{◌≡◌, ℕ, zero, suc, ◌+◌, ◌*◌, ◌<◌, ◌≤◌, List, [], ◌∷◌, inl, inr, refl, ap, sym, ◌∙◌, subst, arith, rules}
use Rattle.std.proofs.lemmas.Int.{ints}
use Rattle.std.specs.Prelude.{◌⊎◌, ℤ, pos, negsuc, ◌+ℤ◌, ◌-ℤ◌, ◌≤ℤ◌, ◌<ℤ◌, FitsSigned, Option, Some, None, IsSome, unwrap_or, length}
use Rattle.cells.specs.declared.place.At.{At}
use Rattle.cells.specs.declared.place.Box3.{Box3}
use Rattle.cells.specs.declared.place.Size.{Size}
use Rattle.cells.specs.Places.{HasAxes, IsInside, IsSmall, SumFits, index_in, place_of, cell_count, on_axis, plus, minus, spot}
use Rattle.cells.specs.Boxes.{HasCells, HoldsBox, HoldsEach, IsInBox}
use Rattle.cells.specs.Parts.{AreParts, HoldsFrom, count_from, index_from, or_later, past}
use Rattle.cells.specs.Cells.{Cells, HasCell, HasRun, Holds, IsInsideOf, IsOnePart, IsVolume, index_of}
use Rattle.cells.proofs.Raster.{has_index, index_below, index_of_spot, index_parts, place_at, run_below}
use Rattle.std.specs.List.{AllByRecursion}
use Rattle.std.specs.Int.{w32}
use Rattle.limits.specs.declared.bounds.TheConstants.{GREATEST_AXIS}
use Rattle.cells.proofs.BoxLaws.{box_small, plus_minus}
use Rattle.cells.proofs.BoxTests.{OnAxes, axes_of_each, each_of_axes, inside_of, of_inside, on_axis_bounds, on_axis_some}
use Rattle.cells.proofs.CellLaws.{cell_has_index, indexed_has_cell, inside_part}
use Rattle.cells.proofs.PartLaws.{IsBehind, from_frame, index_back, index_front, parts_behind, small_of, split_from}

-- a place as the next part counts it, one step on
past_plus : (size : Size) (p q : At) → past size (plus p q) ≡ plus (past size p) q
past_plus size p q = λ k. record { x = p.x +ℤ q.x; y = p.y +ℤ q.y; f = same p.f q.f k }
  where
    same : (a b : ℤ) → (a +ℤ b) -ℤ pos (size.f + 1) ≡ (a -ℤ pos (size.f + 1)) +ℤ b
    same a b = omega (arith, ints)

past_minus : (size : Size) (p q : At) → minus (past size p) (past size q) ≡ minus p q
past_minus size p q = λ k. record { x = p.x -ℤ q.x; y = p.y -ℤ q.y; f = same p.f q.f k }
  where
    same : (a b : ℤ) → (a -ℤ pos (size.f + 1)) -ℤ (b -ℤ pos (size.f + 1)) ≡ a -ℤ b
    same a b = omega (arith, ints)

-- where a place with an index is
pub found : (size next : Size) (more : List Size) (p : At) → IsSome (index_from size (next ∷ more) p) → IsInside size p ⊎ IsBehind size next more p (unwrap_or (index_from size (next ∷ more) p) 0)
found size next more p some =
    elim (split_from size next more p _ (has_index (index_from size (next ∷ more) p) 0 some)) [
      | inl here ↦ inl (subst IsSome (sym here) refl)
      | inr behind ↦ inr behind
    ]

-- the frame of a place inside, and of one after it
frame_inside : (size : Size) (p : At) → IsInside size p → (pos 0 ≤ℤ p.f) × (p.f <ℤ pos size.f)
frame_inside size p inside = on_axis_bounds size.f p.f (of_inside size p inside).f

frame_behind : (size next : Size) (more : List Size) (p : At) (i : ℕ) → IsBehind size next more p i → pos (size.f + 1) ≤ℤ p.f
frame_behind size next more p i behind = omega (arith, ints, from_frame next more (past size p) behind.j behind.index)

-- a run inside one size ends within its rows
run_inside : (size : Size) (p : At) (i w : ℕ) → index_in size p ≡ Some i → ((j : ℕ) → j < w → IsInside size (plus p (spot j 0 0))) → i + w ≤ cell_count size
run_inside size p i zero at each = omega (arith, index_below size p i at)
run_inside size p i (suc w) at each =
    run_below size p i (suc w) at (let last = on_axis_bounds size.w (p.x +ℤ pos w) (of_inside size (plus p (spot w 0 0)) (each w (omega arith))).x in omega (arith, ints, last.1))

-- a run of w places along X has w indices in a row
pub run_along : (size : Size) (more : List Size) (p : At) (i w : ℕ) → index_from size more p ≡ Some i → ((j : ℕ) → j < w → IsSome (index_from size more (plus p (spot j 0 0)))) → i + w ≤ count_from size more
run_along size [] p i w at each = run_inside size p i w at each
run_along size (next ∷ more) p i w at each =
    elim (split_from size next more p i at) [
      | inl here ↦
          let frame = frame_inside size p (subst IsSome (sym here) refl) in
          let inside : (j : ℕ) → j < w → IsInside size (plus p (spot j 0 0)) =
          λ j lt.
          elim (found size next more (plus p (spot j 0 0)) (each j lt)) [
            | inl in' ↦ in'
            | inr out ↦ absurd (omega (arith, ints, frame.1, frame_behind size next more (plus p (spot j 0 0)) _ out))
          ]
          in
          let fits = run_inside size p i w here inside in
          omega (arith, fits)
      | inr behind ↦
          let frame = frame_behind size next more p i behind in
          let others : (j : ℕ) → j < w → IsSome (index_from next more (plus (past size p) (spot j 0 0))) =
          λ j lt.
          elim (found size next more (plus p (spot j 0 0)) (each j lt)) [
            | inl in' ↦ absurd (omega (arith, ints, frame, (frame_inside size (plus p (spot j 0 0)) in').1))
            | inr out ↦ subst (λ q. IsSome (index_from next more q)) (past_plus size p (spot j 0 0)) (subst IsSome (sym out.index) refl)
          ]
          in
          let fits = run_along next more (past size p) behind.j w behind.index others in
          omega (arith, fits, behind.is)
    ]

pub run_of_volume : (v : Cells) (p : At) (i w : ℕ) → index_of v p ≡ Some i → HasRun v p w → i + w ≤ count_from v.size v.more
run_of_volume v p i w at run = run_along v.size v.more p i w at run.each

-- a place is inside a box where its coordinates are
in_box : (rect : Box3) (p : At) → OnAxes rect.size (minus p rect.corner) → IsInBox rect p
in_box rect p on = inside_of rect.size (minus p rect.corner) on

or_some : (o : Option ℕ) (n j : ℕ) → IsSome (or_later o n (Some j))
or_some None n j = refl
or_some (Some i) n j = refl

-- a box that lies inside a part has its places inside
pub each_of_parts : (size : Size) (more : List Size) (corner : At) (inner : Size) → HoldsFrom size more corner inner → (p : At) → IsInBox (record { corner = corner; size = inner }) p → IsSome (index_from size more p)
each_of_parts size [] corner inner holds p has = each_of_axes size (record { corner = corner; size = inner }) holds p has
each_of_parts size (next ∷ more) corner inner (inl here) p has =
    let inside = each_of_axes size (record { corner = corner; size = inner }) here p has in
    subst IsSome (sym (index_front size (next ∷ more) p _ (has_index (index_in size p) 0 inside))) refl
each_of_parts size (next ∷ more) corner inner (inr behind) p has =
    let there = each_of_parts next more (past size corner) inner behind (past size p) (subst (IsInside inner) (sym (past_minus size p corner)) has) in
    subst (λ o. IsSome (or_later (index_in size p) (cell_count size) o)) (sym (has_index (index_from next more (past size p)) 0 there)) (or_some (index_in size p) (cell_count size) (unwrap_or (index_from next more (past size p)) 0))

-- and a box of some cells whose places are inside lies inside a part: the empty frame after a part parts it from the next
pub parts_of_each : (size : Size) (more : List Size) (corner : At) (inner : Size) → HasCells inner → ((p : At) → IsInBox (record { corner = corner; size = inner }) p → IsSome (index_from size more p)) → HoldsFrom size more corner inner
parts_of_each size [] corner inner some each = axes_of_each size (record { corner = corner; size = inner }) some each
parts_of_each size (next ∷ more) corner inner some each =
    elim (found size next more corner (each corner first)) [
      | inl here ↦ inl (axes_of_each size rect some (whole (frame_inside size corner here)))
      | inr behind ↦ inr (parts_of_each next more (past size corner) inner some (others (frame_behind size next more corner _ behind)))
    ]
  where
    rect : Box3
    rect = record { corner = corner; size = inner }

    on_first : (a : ℤ) (n : ℕ) → 1 ≤ n → IsSome (on_axis n (a -ℤ a))
    on_first a n some' = on_axis_some n (a -ℤ a) (omega (arith, ints)) (omega (arith, ints))

    first : IsInBox rect corner
    first = in_box rect corner (record { x = on_first corner.x inner.w some.w; y = on_first corner.y inner.h some.h; f = on_first corner.f inner.f some.f })

    whole : (pos 0 ≤ℤ corner.f) × (corner.f <ℤ pos size.f) → HoldsEach size rect
    whole frame p has =
        elim (found size next more p (each p has)) [
          | inl in' ↦ in'
          | inr out ↦
              let from = frame_behind size next more p _ out in
              let on = of_inside inner (minus p corner) has in
              let f = on_axis_bounds inner.f (p.f -ℤ corner.f) on.f in
              let q : At = record { x = p.x; y = p.y; f = pos size.f } in
              let q_in : IsInBox rect q = in_box rect q (record { x = on.x; y = on.y; f = on_axis_some inner.f (pos size.f -ℤ corner.f) (omega (arith, ints, frame.1)) (omega (arith, ints, from, f.1)) }) in
              elim (found size next more q (each q q_in)) [
                | inl q_in' ↦ absurd (omega (arith, ints, (frame_inside size q q_in').1))
                | inr q_out ↦ absurd (omega (arith, ints, frame_behind size next more q _ q_out))
              ]
        ]

    unpast : At → At
    unpast p = record { x = p.x; y = p.y; f = p.f +ℤ pos (size.f + 1) }

    past_unpast : (p : At) → past size (unpast p) ≡ p
    past_unpast p = λ k. record { x = p.x; y = p.y; f = same p.f k }
      where
        same : (a : ℤ) → (a +ℤ pos (size.f + 1)) -ℤ pos (size.f + 1) ≡ a
        same a = omega (arith, ints)

    others : pos (size.f + 1) ≤ℤ corner.f → (p : At) → IsInBox (record { corner = past size corner; size = inner }) p → IsSome (index_from next more p)
    others frame p has =
        let here : IsInBox rect (unpast p) = subst (IsInside inner) (ap (λ q. minus q (past size corner)) (sym (past_unpast p)) ∙ past_minus size (unpast p) corner) has in
        let f = on_axis_bounds inner.f ((unpast p).f -ℤ corner.f) (of_inside inner (minus (unpast p) corner) here).f in
        elim (found size next more (unpast p) (each (unpast p) here)) [
          | inl in' ↦ absurd (omega (arith, ints, frame, f.0, (frame_inside size (unpast p) in').1))
          | inr out ↦ subst (λ q. IsSome (index_from next more q)) (past_unpast p) (subst IsSome (sym out.index) refl)
        ]

-- a volume holds a box of some cells exactly where the box lies inside one of its parts
pub held : (v : Cells) (corner : At) (inner : Size) → HoldsFrom v.size v.more corner inner → Holds v corner inner
held v corner inner holds = each_of_parts v.size v.more corner inner holds

pub of_held : (v : Cells) (corner : At) (inner : Size) → HasCells inner → Holds v corner inner → HoldsFrom v.size v.more corner inner
of_held v corner inner some each = parts_of_each v.size v.more corner inner some each

-- a box inside the part in front, and one that begins before its first frame
pub holds_front : (size : Size) (more : List Size) (corner : At) (inner : Size) → HoldsBox size corner inner → HoldsFrom size more corner inner
holds_front size [] corner inner here = here
holds_front size (next ∷ more) corner inner here = inl here

pub not_before : (size : Size) (more : List Size) (corner : At) (inner : Size) → corner.f <ℤ pos 0 → HoldsFrom size more corner inner → ⊥
not_before size [] corner inner before holds = omega (arith, ints, before, holds.f.from)
not_before size (next ∷ more) corner inner before (inl here) = omega (arith, ints, before, here.f.from)
not_before size (next ∷ more) corner inner before (inr behind) = not_before next more (past size corner) inner (omega (arith, ints, before)) behind

-- how far from the first cell a place with a cell may be
pub record IsNear (p : At) : Type 0 where
  pub x : (pos 0 ≤ℤ p.x) × (p.x <ℤ pos GREATEST_AXIS)
  pub y : (pos 0 ≤ℤ p.y) × (p.y <ℤ pos GREATEST_AXIS)
  pub f : (pos 0 ≤ℤ p.f) × (p.f <ℤ pos 65552)

pub record IsWithin (n : ℕ) (p : At) : Type 0 where
  pub x : (pos 0 ≤ℤ p.x) × (p.x <ℤ pos GREATEST_AXIS)
  pub y : (pos 0 ≤ℤ p.y) × (p.y <ℤ pos GREATEST_AXIS)
  pub f : (pos 0 ≤ℤ p.f) × (p.f <ℤ pos (4097 * suc n))

inside_near : (size : Size) (p : At) (n : ℕ) → HasAxes size → IsInside size p → IsWithin n p
inside_near size p n axes inside =
    let on = of_inside size p inside in
    let x = on_axis_bounds size.w p.x on.x in
    let y = on_axis_bounds size.h p.y on.y in
    let f = on_axis_bounds size.f p.f on.f in
    record {
      x = (x.0, omega (arith, ints, x.1, axes.w.1));
      y = (y.0, omega (arith, ints, y.1, axes.h.1));
      f = (f.0, omega (arith, ints, f.1, axes.f.1));
    }

parts_near : (size : Size) (more : List Size) (p : At) → HasAxes size → AllByRecursion HasAxes more → IsSome (index_from size more p) → IsWithin (length more) p
parts_near size [] p axes others some = inside_near size p 0 axes some
parts_near size (next ∷ more) p axes others some =
    elim (found size next more p some) [
      | inl here ↦ inside_near size p (suc (length more)) axes here
      | inr behind ↦
          let there = parts_near next more (past size p) others.0 others.1 (subst IsSome (sym behind.index) refl) in
          let frame = frame_behind size next more p _ behind in
          record { x = there.x; y = there.y; f = (omega (arith, ints, frame), omega (arith, ints, there.f.1, axes.f.1)) }
    ]

-- a place inside is not far from the first
pub inside_is_near : (v : Cells) → IsVolume v → (p : At) → IsInsideOf v p → IsNear p
inside_is_near v is p inside =
    let near = parts_near v.size v.more p is.parts.first is.parts.others inside in
    record { x = near.x; y = near.y; f = (near.f.0, omega (arith, ints, near.f.1, is.parts.few)) }

pub cell_is_near : (v : Cells) → IsVolume v → (p : At) → HasCell v p → IsNear p
cell_is_near v is p has = inside_is_near v is p (cell_has_index v p has)

-- the places of a box that a volume holds are inside, and have cells
pub held_inside : (v : Cells) (corner : At) (inner : Size) (i : ℕ) → HasCells inner → Holds v corner inner → i < cell_count inner → IsInsideOf v (plus corner (place_of inner i))
held_inside v corner inner i some holds lt =
    holds (plus corner (place_of inner i)) (subst (IsInside inner) (sym (plus_minus corner (place_of inner i))) (subst IsSome (sym (place_at inner i some.w some.h lt)) refl))

pub held_cell : (v : Cells) → IsVolume v → (corner : At) (inner : Size) (i : ℕ) → HasCells inner → Holds v corner inner → i < cell_count inner → HasCell v (plus corner (place_of inner i))
held_cell v is corner inner i some holds lt = indexed_has_cell v is.count (plus corner (place_of inner i)) (held_inside v corner inner i some holds lt)

-- two places whose sum is inside have sums of 32 bits
pub inside_sum_fits : (v : Cells) → IsVolume v → (p q : At) → IsInsideOf v (plus p q) → SumFits p q
inside_sum_fits v is p q inside =
    let near = inside_is_near v is (plus p q) inside in
    record { x = small _ near.x.0 (omega (arith, ints, near.x.1)); y = small _ near.y.0 (omega (arith, ints, near.y.1)); f = small _ near.f.0 near.f.1 }
  where
    low : (d : ℕ) → d < 65552 → FitsSigned w32 (pos d)
    low d lt' = search rules

    small : (z : ℤ) → pos 0 ≤ℤ z → z <ℤ pos 65552 → FitsSigned w32 z
    small (pos d) from below = low d (omega (arith, ints, below))
    small (negsuc d) from below = absurd (omega (arith, ints, from))

pub held_sum_fits : (v : Cells) → IsVolume v → (corner : At) (inner : Size) (i : ℕ) → HasCells inner → Holds v corner inner → i < cell_count inner → SumFits corner (place_of inner i)
held_sum_fits v is corner inner i some holds lt = inside_sum_fits v is corner (place_of inner i) (held_inside v corner inner i some holds lt)

-- a run in the first part
pub run_of_part : (v : Cells) (p : At) (w : ℕ) → IsInside v.size p → (p.x +ℤ pos w) ≤ℤ pos v.size.w → HasRun v p w
run_of_part v p w inside room = record {
  first = inside_part v p inside;
  each = λ j lt.
      let on = of_inside v.size p inside in
      let x = on_axis_bounds v.size.w p.x on.x in
      inside_part v (plus p (spot j 0 0))
      (inside_of v.size (plus p (spot j 0 0))
      (record { x = on_axis_some v.size.w (p.x +ℤ pos j) (omega (arith, ints, x.0)) (omega (arith, ints, room)); y = subst (λ z. IsSome (on_axis v.size.h z)) (same p.y) on.y; f = subst (λ z. IsSome (on_axis v.size.f z)) (same p.f) on.f }));
}
  where
    same : (z : ℤ) → z ≡ z +ℤ pos 0
    same z = omega (arith, ints)

-- the indices of a run follow one another
step_index : (size : Size) (p : At) (i j : ℕ) → index_in size p ≡ Some i → IsInside size (plus p (spot j 0 0)) → index_in size (plus p (spot j 0 0)) ≡ Some (i + j)
step_index size p i j at inside =
    let o = unwrap_or (index_in size (plus p (spot j 0 0))) 0 in
    let there : index_in size (plus p (spot j 0 0)) ≡ Some o = has_index (index_in size (plus p (spot j 0 0))) 0 inside in
    let a = index_parts size p i at in
    let b = index_parts size (plus p (spot j 0 0)) o there in
    let x : b.x ≡ a.x + j = omega (arith, ints, a.x_on.is, b.x_on.is) in
    let y : b.y ≡ a.y = omega (arith, ints, a.y_on.is, b.y_on.is) in
    let f : b.f ≡ a.f = omega (arith, ints, a.f_on.is, b.f_on.is) in
    there ∙ ap Some (b.index ∙ (λ k. x k + size.w * (y k + size.h * f k)) ∙ turn a.x j (size.w * (a.y + size.h * a.f)) ∙ ap (λ n. n + j) (sym a.index))
  where
    turn : (x j n : ℕ) → (x + j) + n ≡ (x + n) + j
    turn x j n = omega arith

pub run_index : (size : Size) (more : List Size) (p : At) (i j : ℕ) → index_from size more p ≡ Some i → IsSome (index_from size more (plus p (spot j 0 0))) → index_from size more (plus p (spot j 0 0)) ≡ Some (i + j)
run_index size [] p i j at some = step_index size p i j at some
run_index size (next ∷ more) p i j at some =
    elim (split_from size next more p i at) [
      | inl here ↦
          let frame = frame_inside size p (subst IsSome (sym here) refl) in
          elim (found size next more (plus p (spot j 0 0)) some) [
            | inl in' ↦ index_front size (next ∷ more) (plus p (spot j 0 0)) (i + j) (step_index size p i j here in')
            | inr out ↦ absurd (omega (arith, ints, frame.1, frame_behind size next more (plus p (spot j 0 0)) _ out))
          ]
      | inr behind ↦
          let frame = frame_behind size next more p i behind in
          elim (found size next more (plus p (spot j 0 0)) some) [
            | inl in' ↦ absurd (omega (arith, ints, frame, (frame_inside size (plus p (spot j 0 0)) in').1))
            | inr out ↦
                let here : index_from next more (past size (plus p (spot j 0 0))) ≡ Some (behind.j + j) =
                ap (index_from next more) (past_plus size p (spot j 0 0))
                ∙ run_index next more (past size p) behind.j j behind.index (subst (λ q. IsSome (index_from next more q)) (past_plus size p (spot j 0 0)) (subst IsSome (sym out.index) refl)) in
                index_back size next more (plus p (spot j 0 0)) out.outside
                ∙ ap (or_later None (cell_count size)) here ∙ ap Some (let e : cell_count size + (behind.j + j) ≡ i + j = omega (arith, behind.is) in e)
          ]
    ]

pub run_cells : (v : Cells) (p : At) (i w : ℕ) → index_of v p ≡ Some i → HasRun v p w → (j : ℕ) → j < w → index_of v (plus p (spot j 0 0)) ≡ Some (i + j)
run_cells v p i w at run j lt = run_index v.size v.more p i j at (run.each j lt)

-- a place of a row, from the row's first
pub row_step : (corner : At) (j y f : ℕ) → plus corner (spot j y f) ≡ plus (plus corner (spot 0 y f)) (spot j 0 0)
row_step corner j y f = λ k. record { x = first corner.x j k; y = other corner.y y k; f = other corner.f f k }
  where
    first : (a : ℤ) (n : ℕ) → a +ℤ pos n ≡ (a +ℤ pos 0) +ℤ pos n
    first a n = omega (arith, ints)

    other : (a : ℤ) (n : ℕ) → a +ℤ pos n ≡ (a +ℤ pos n) +ℤ pos 0
    other a n = omega (arith, ints)

-- a row of a box that a volume holds is a run
pub held_run : (v : Cells) (corner : At) (inner : Size) (y f : ℕ) → Holds v corner inner → 1 ≤ inner.w → y < inner.h → f < inner.f → HasRun v (plus corner (spot 0 y f)) inner.w
held_run v corner inner y f holds some ly lf = record {
  first = at 0 (omega (arith, some));
  each = λ j lt. subst (IsInsideOf v) (row_step corner j y f) (at j lt);
}
  where
    at : (j : ℕ) → j < inner.w → IsInsideOf v (plus corner (spot j y f))
    at j lt = holds (plus corner (spot j y f)) (subst (IsInside inner) (sym (plus_minus corner (spot j y f))) (subst IsSome (sym (index_of_spot inner j y f lt ly lf)) refl))

-- a box inside the first part is held, and where there is one part alone, a held box of some cells lies inside it
pub box_held : (v : Cells) (corner : At) (inner : Size) → HoldsBox v.size corner inner → Holds v corner inner
box_held v corner inner box = held v corner inner (holds_front v.size v.more corner inner box)

pub held_box : (v : Cells) (corner : At) (inner : Size) → IsOnePart v → HasCells inner → Holds v corner inner → HoldsBox v.size corner inner
held_box v corner inner one some holds = subst (λ (more : List Size). HoldsFrom v.size more corner inner) one (of_held v corner inner some holds)

-- a box of some cells that a volume holds is small
parts_hold_small : (size : Size) (more : List Size) (corner : At) (inner : Size) → AreParts size more → HasCells inner → HoldsFrom size more corner inner → IsSmall inner
parts_hold_small size [] corner inner parts some box = box_small size corner inner (small_of size [] parts) some box
parts_hold_small size (next ∷ more) corner inner parts some (inl box) = box_small size corner inner (small_of size (next ∷ more) parts) some box
parts_hold_small size (next ∷ more) corner inner parts some (inr behind) = parts_hold_small next more (past size corner) inner (parts_behind size next more parts) some behind

pub held_small : (v : Cells) (corner : At) (inner : Size) → IsVolume v → HasCells inner → Holds v corner inner → IsSmall inner
held_small v corner inner is some holds = parts_hold_small v.size v.more corner inner is.parts some (of_held v corner inner some holds)
