-- A canvas that is laid for a plan: the next block shares its strips with it, and leaves it laid.
use Rattle.std.proofs.Common.{◌≡◌, ◌⊎◌, ℕ, ◌+◌, ◌-◌, ◌*◌, ◌<◌, ◌≤◌, min, List, [], ◌∷◌, length, Bool, true, false, refl, ap, sym, ◌∙◌, subst, arith, inl, inr, ⊎_elim, ltb-true}
use Rattle.std.specs.Prelude.{pos, Option, Some, None, IsSome, is_none, nat_lt, cond, option_map, get_or}
use Rattle.std.specs.List.{position_or_len}
use Rattle.std.proofs.lemmas.Option.{same_Some}
use mathlib.Core.Bool.{false≢true}
use Rattle.cells.specs.declared.place.At.{At}
use Rattle.cells.specs.declared.place.Box3.{Box3}
use Rattle.cells.specs.declared.place.Size.{Size}
use Rattle.cells.specs.Boxes.{HasCells, IsInBox, IsInOne}
use Rattle.cells.specs.Cells.{Cells}
use Rattle.cells.specs.Firsts.{IsFirstWithout}
use Rattle.cells.specs.Places.{HasAxes, IsInside, cell_count, place_of, spot}
use Rattle.cells.proofs.Raster.{place_at}
use Rattle.boxes.specs.FirstBoxes.{AreFirstBoxes, IsBoxAfter}
use Rattle.boxes.specs.Spans.{grid_step}
use Rattle.map_canvas.specs.Maps.{IsFilled, IsMap, SourceMap, empty_map, first_unfilled}
use Rattle.map_canvas.proofs.AfterLaws.{filled_of, source_of_place}
use Rattle.map_canvas.proofs.EmptyAndFull.{map_at-empty}
use Rattle.map_canvas.proofs.Fronts.{front_passes, front_stops}
use Rattle.block_strips.specs.declared.plan.QuiltPlan.{QuiltPlan}
use Rattle.block_strips.specs.Blocks.{FitsBlock, block_at, block_len, block_overlap, next_box, shared_on}
use Rattle.block_strips.specs.Laid.{IsLaidByBlocks, SharesStrips, StaysLaid, plan_block}
use Rattle.block_strips.proofs.Along.{Reaches, corner_of, shared_of}
use Rattle.block_strips.proofs.Boxes.{block_fits, grid_box, spot_inside, spot_of_index}
use Rattle.block_strips.proofs.Fronts.{Front, Grid, IsGrid, first_is_next, front_box, front_more, front_none}

-- the grid of a plan's blocks
abbrev pub grid_of : QuiltPlan → Size → Size → Grid
grid_of plan output sample = record {
  B = block_len output.w sample.w plan;
  s = grid_step (block_len output.w sample.w plan) plan.overlap;
  D = block_len output.h sample.h plan;
  t = grid_step (block_len output.h sample.h plan) plan.overlap;
}

-- sizes of pictures of some cells
pub record ArePictures (plan : QuiltPlan) (output sample : Size) : Type 0 where
  pub block : 1 ≤ plan.block
  pub some_output : HasCells output
  pub some_sample : HasCells sample
  pub one : output.f ≡ 1

module _ (plan : QuiltPlan) (output sample : Size) (are : ArePictures plan output sample) where
  pub is_grid : IsGrid (grid_of plan output sample)
  is_grid = record {
    along = (omega (arith, are.block, are.some_output, are.some_sample), omega arith);
    down = (omega (arith, are.block, are.some_output, are.some_sample), omega arith);
  }

  -- the block that has the first cell after a front
  pub block_is : (k j left top : ℕ) (g : Grid) → g ≡ grid_of plan output sample → Reaches g.s (g.B - g.s) k left → Reaches g.t (g.D - g.t) j top → block_at plan output sample (spot left top 0) ≡ front_box output g k j
  block_is k j left top g e along down =
      subst (λ (g : Grid). Reaches g.s (g.B - g.s) k left → Reaches g.t (g.D - g.t) j top → block_at plan output sample (spot left top 0) ≡ front_box output g k j) (sym e)
      (λ along down. let g = grid_of plan output sample in
      let x = corner_of g.B g.s k left is_grid.along.0 is_grid.along.1 along in
      let y = corner_of g.D g.t j top is_grid.down.0 is_grid.down.1 down in
      λ i. grid_box (x i) (y i) (min g.B (output.w - x i)) (min g.D (output.h - y i)))
      along down

  -- the first blocks of a plan have come to a front
  pub front_of : (rects : List Box3) → AreFirstBoxes (plan_block plan output sample) output rects → Front output (grid_of plan output sample) (IsInOne rects)
  front_of [] blocks = front_none output (grid_of plan output sample) (IsInOne []) are.some_output.w (λ p none. none)
  front_of (rect ∷ rects) blocks =
      let g = grid_of plan output sample in
      let front = front_of rects blocks.1 in
      let next = first_is_next output g (IsInOne rects) front blocks.0.index is_grid are.one are.some_output.w are.some_output.h blocks.0.first in
      let same : rect ≡ front_box output g front.k front.j =
      sym (same_Some (block_at plan output sample (place_of output blocks.0.index)) rect blocks.0.is) ∙ ap (block_at plan output sample) next.place ∙ block_is front.k front.j front.left front.top g refl front.along front.down in
      front_more output g (IsInOne rects) (IsInOne (rect ∷ rects)) front is_grid are.some_output.w next.room
      (λ x y lx ly. (
        λ at. subst (λ (r : Box3). IsInBox r (spot x y 0) ⊎ IsInOne rects (spot x y 0)) same at,
        λ at. subst (λ (r : Box3). IsInBox r (spot x y 0) ⊎ IsInOne rects (spot x y 0)) (sym same) at,
      ))

-- the first unfilled cell is the first place that isn't filled
pub record IsFirstUnfilled (m : SourceMap) (q : At) : Type 0 where
  pub index : ℕ
  pub first : IsFirstWithout (cell_count m.size) (λ i. IsFilled m (place_of m.size i)) index
  pub place : place_of m.size index ≡ q

pub first_is : (m : SourceMap) (q : At) → IsMap m → first_unfilled m ≡ Some q → IsFirstUnfilled m q
first_is m q is e = by (nat_lt n (length m.sources)) refl e
  where
    n : ℕ
    n = position_or_len is_none m.sources

    by : (b : Bool) → nat_lt n (length m.sources) ≡ b → option_map (place_of m.size) (cond b (Some n) None) ≡ Some q → IsFirstUnfilled m q
    by false t e = cc
    by true t e =
        let lt : n < length m.sources = ltb-true n (length m.sources) t in
        record {
          index = n;
          first = record {
            below = omega (arith, lt, is.count);
            before = λ earlier less.
                subst IsSome (sym (source_of_place m is earlier (omega (arith, lt, less))))
                (filled_of (get_or m.sources earlier None) (front_passes is_none m.sources earlier None less));
            here = λ filled. unfilled (get_or m.sources n None) (front_stops is_none m.sources None lt) (subst IsSome (source_of_place m is n lt) filled);
          };
          place = same_Some (place_of m.size n) q e;
        }
      where
        unfilled : (o : Option At) → is_none o ≡ true → IsSome o → ⊥
        unfilled None e some = absurd (false≢true some)
        unfilled (Some a) e some = absurd (false≢true e)

-- which box is next
pub record IsNextBox (plan : QuiltPlan) (m : SourceMap) (sample : Cells) (rect : Box3) : Type 0 where
  pub index : ℕ
  pub first : IsFirstWithout (cell_count m.size) (λ i. IsFilled m (place_of m.size i)) index
  pub box : block_at plan m.size sample.size (place_of m.size index) ≡ rect

pub next_is : (plan : QuiltPlan) (m : SourceMap) (sample : Cells) (rect : Box3) → IsMap m → next_box plan m sample ≡ Some rect → IsNextBox plan m sample rect
next_is plan m sample rect is e = by (first_unfilled m) refl e
  where
    by : (o : Option At) → first_unfilled m ≡ o → option_map (block_at plan m.size sample.size) o ≡ Some rect → IsNextBox plan m sample rect
    by None f e = cc
    by (Some q) f e =
        let at = first_is m q is f in
        record { index = at.index; first = at.first; box = ap (block_at plan m.size sample.size) at.place ∙ same_Some (block_at plan m.size sample.size q) rect e }

pub place_inside : (size : Size) (i : ℕ) → 1 ≤ size.w → 1 ≤ size.h → i < cell_count size → IsInside size (place_of size i)
place_inside size i w h lt = subst IsSome (sym (place_at size i w h lt)) refl

-- it is the one after those that are laid
pub next_after : (plan : QuiltPlan) (m : SourceMap) (sample : Cells) → IsMap m → (laid : IsLaidByBlocks plan sample m) (rect : Box3) → next_box plan m sample ≡ Some rect → IsBoxAfter (plan_block plan m.size sample.size) m.size laid.rects rect
next_after plan m sample is laid rect next =
    let at = next_is plan m sample rect is next in
    let place = λ (i : ℕ) (lt : i < cell_count m.size). place_inside m.size i is.small.axes.w.0 is.small.axes.h.0 lt in
    record {
      index = at.index;
      first = record {
        below = at.first.below;
        before = λ earlier lt. (laid.filled (place_of m.size earlier) (place earlier (omega (arith, lt, at.first.below)))).0 (at.first.before earlier lt);
        here = λ has. at.first.here ((laid.filled (place_of m.size at.index) (place at.index at.first.below)).1 has);
      };
      is = ap Some at.box;
    }

module _ (plan : QuiltPlan) (m : SourceMap) (sample : Cells) (rect : Box3) (is : IsMap m) (axes : HasAxes sample.size) (block : 1 ≤ plan.block) (one : m.size.f ≡ 1) (next : next_box plan m sample ≡ Some rect) where
  pub pictures : ArePictures plan m.size sample.size
  pictures = record {
    block = block;
    some_output = record { w = is.small.axes.w.0; h = is.small.axes.h.0; f = is.small.axes.f.0 };
    some_sample = record { w = axes.w.0; h = axes.h.0; f = axes.f.0 };
    one = one;
  }

  pub next_fits : FitsBlock m.size sample.size rect
  next_fits =
      let at = next_is plan m sample rect is next in
      let spot = spot_of_index m.size (place_of m.size at.index) at.index one (place_at m.size at.index is.small.axes.w.0 is.small.axes.h.0 at.first.below) in
      subst (FitsBlock m.size sample.size) (sym (ap (block_at plan m.size sample.size) spot.place) ∙ at.box)
      (block_fits plan m.size sample.size spot.x spot.y block pictures.some_sample is.small.axes.f.0 spot.column spot.row)

  module _ (laid : IsLaidByBlocks plan sample m) where
    filled_front : Front m.size (grid_of plan m.size sample.size) (IsFilled m)
    filled_front =
        let front = front_of plan m.size sample.size pictures laid.rects laid.blocks in
        record {
          k = front.k;
          j = front.j;
          left = front.left;
          top = front.top;
          along = front.along;
          down = front.down;
          room = front.room;
          held = λ x y lx ly at. (laid.filled (spot x y 0) (spot_inside m.size x y one lx ly)).1 (front.held x y lx ly at);
          only = λ x y lx ly filled. front.only x y lx ly ((laid.filled (spot x y 0) (spot_inside m.size x y one lx ly)).0 filled);
        }

    -- the strips of the block of a front
    the_grid : IsGrid (grid_of plan m.size sample.size)
    the_grid = is_grid plan m.size sample.size pictures

    strips_of : (rect' : Box3) → rect' ≡ front_box m.size (grid_of plan m.size sample.size) filled_front.k filled_front.j → filled_front.top < m.size.h → SharesStrips plan sample m rect'
    strips_of rect' e room = subst (SharesStrips plan sample m) (sym e) (record {
      left = omega (arith, left, filled_front.room, the_grid.along, filled_front.along.to);
      top = omega (arith, top, room, the_grid.down, filled_front.down.to);
      filled = λ x y lx ly. (
        λ filled. ⊎_elim (λ (lt : (grid_of plan m.size sample.size).t * 0 + (filled_front.j * (grid_of plan m.size sample.size).t + y) < filled_front.top). inr (omega (arith, lt, top))) (λ (both : (filled_front.j * (grid_of plan m.size sample.size).t + y < filled_front.j * (grid_of plan m.size sample.size).t + (grid_of plan m.size sample.size).D) × (filled_front.k * (grid_of plan m.size sample.size).s + x < filled_front.left)). inl (omega (arith, both.1, left)))
            (turned x y (filled_front.only (filled_front.k * (grid_of plan m.size sample.size).s + x) (filled_front.j * (grid_of plan m.size sample.size).t + y) (omega (arith, lx)) (omega (arith, ly)) filled)),
        λ at. filled_front.held (filled_front.k * (grid_of plan m.size sample.size).s + x) (filled_front.j * (grid_of plan m.size sample.size).t + y) (omega (arith, lx)) (omega (arith, ly))
            (⊎_elim (λ (lt : x < shared_on m.size.w sample.size.w plan (pos (filled_front.k * (grid_of plan m.size sample.size).s))). inr (omega (arith, ly), omega (arith, lt, left))) (λ (lt : y < shared_on m.size.h sample.size.h plan (pos (filled_front.j * (grid_of plan m.size sample.size).t))). inl (omega (arith, lt, top))) at),
      );
    })
      where
        same_overlap : (B overlap : ℕ) → 1 ≤ B → min overlap (B - 1) ≡ B - (B - min overlap (B - 1))
        same_overlap B overlap some = omega arith

        left : filled_front.k * (grid_of plan m.size sample.size).s + shared_on m.size.w sample.size.w plan (pos (filled_front.k * (grid_of plan m.size sample.size).s)) ≡ filled_front.left
        left = shared_of (grid_of plan m.size sample.size).s (block_overlap m.size.w sample.size.w plan) filled_front.k filled_front.left the_grid.along.0
            (subst (λ O. Reaches (grid_of plan m.size sample.size).s O filled_front.k filled_front.left) (sym (same_overlap (grid_of plan m.size sample.size).B plan.overlap (omega (arith, the_grid.along)))) filled_front.along)

        top : filled_front.j * (grid_of plan m.size sample.size).t + shared_on m.size.h sample.size.h plan (pos (filled_front.j * (grid_of plan m.size sample.size).t)) ≡ filled_front.top
        top = shared_of (grid_of plan m.size sample.size).t (block_overlap m.size.h sample.size.h plan) filled_front.j filled_front.top the_grid.down.0
            (subst (λ O. Reaches (grid_of plan m.size sample.size).t O filled_front.j filled_front.top) (sym (same_overlap (grid_of plan m.size sample.size).D plan.overlap (omega (arith, the_grid.down)))) filled_front.down)

        turned : (x y : ℕ) → (filled_front.j * (grid_of plan m.size sample.size).t + y < filled_front.top) ⊎ ((filled_front.j * (grid_of plan m.size sample.size).t + y < filled_front.j * (grid_of plan m.size sample.size).t + (grid_of plan m.size sample.size).D) × (filled_front.k * (grid_of plan m.size sample.size).s + x < filled_front.left)) → ((grid_of plan m.size sample.size).t * 0 + (filled_front.j * (grid_of plan m.size sample.size).t + y) < filled_front.top) ⊎ ((filled_front.j * (grid_of plan m.size sample.size).t + y < filled_front.j * (grid_of plan m.size sample.size).t + (grid_of plan m.size sample.size).D) × (filled_front.k * (grid_of plan m.size sample.size).s + x < filled_front.left))
        turned x y (inl lt) = inl (omega arith)
        turned x y (inr both) = inr both

    pub shares_strips : SharesStrips plan sample m rect
    shares_strips =
        let at = next_is plan m sample rect is next in
        let g = grid_of plan m.size sample.size in
        let front = filled_front in
        let grid = is_grid plan m.size sample.size pictures in
        let there = first_is_next m.size g (IsFilled m) front at.index grid one pictures.some_output.w pictures.some_output.h at.first in
        strips_of rect (sym at.box ∙ ap (block_at plan m.size sample.size) there.place ∙ block_is plan m.size sample.size pictures front.k front.j front.left front.top g refl front.along front.down) there.room

    pub stays_laid : StaysLaid plan sample m rect
    stays_laid after same filled =
        let blocks : AreFirstBoxes (plan_block plan m.size sample.size) m.size (rect ∷ laid.rects) = (next_after plan m sample is laid rect next, laid.blocks) in
        record {
          rects = rect ∷ laid.rects;
          blocks = subst (λ size. AreFirstBoxes (plan_block plan size sample.size) size (rect ∷ laid.rects)) (sym same) blocks;
          filled = λ p inside.
              let here = subst (λ size. IsInside size p) same inside in (
                λ now. ⊎_elim (λ old. inr ((laid.filled p here).0 old)) (λ has. inl has) ((filled p here).0 now),
                λ one. (filled p here).1 (⊎_elim (λ has. inr has) (λ old. inl ((laid.filled p here).1 old)) one),
              );
        }

-- a map with no cell filled is laid for each plan
pub empty_is_laid : (plan : QuiltPlan) (sample : Cells) (size : Size) → IsLaidByBlocks plan sample (empty_map size)
empty_is_laid plan sample size = record {
  rects = [];
  blocks = tt;
  filled = λ p inside. (λ filled. absurd (false≢true (subst IsSome (map_at-empty size p) filled)), λ none. absurd none);
}
