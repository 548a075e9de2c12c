-- How far the first blocks of a plan have come where they are counted: all rows above the first cell outside
-- them, and in the rows of its block all columns left of it.
use Rattle.std.proofs.Common.{◌≡◌, ◌⊎◌, ℕ, ◌+◌, ◌*◌, ◌<◌, ◌≤◌, List, [], ◌∷◌, refl, ap, sym, ◌∙◌, subst, arith, inl, inr, ⊎_elim}
use Rattle.std.proofs.Math.Nat.{mul-le-mul_left}
use Rattle.std.proofs.lemmas.Bool.{cases_lt}
use Rattle.std.specs.Prelude.{Some}
use Rattle.cells.specs.declared.place.Box3.{Box3}
use Rattle.cells.specs.declared.place.Size.{Size}
use Rattle.cells.specs.Boxes.{HasCells, IsInOne}
use Rattle.cells.specs.Firsts.{IsFirstWithout}
use Rattle.cells.specs.Places.{HasAxes, cell_count, index_in, place_of, spot}
use Rattle.cells.proofs.Raster.{in_rows, index_of_spot, one_place, place_at}
use Rattle.boxes.specs.FirstBoxes.{AreFirstBoxes, IsBoxAfter, cells_of_boxes}
use Rattle.boxes.specs.Spans.{SpanFits}
use Rattle.boxes.proofs.FirstBoxes.{whole_within}
use Rattle.boxes.proofs.SpanLaws.{grid_fits}
use Rattle.block_strips.specs.declared.plan.QuiltPlan.{QuiltPlan}
use Rattle.block_strips.specs.Blocks.{block_at, block_len, block_on}
use Rattle.block_strips.specs.Laid.{plan_block}
use Rattle.block_strips.proofs.Boxes.{IsSpot, in_box, of_box, spot_of_index}
use Rattle.limits.specs.declared.bounds.TheConstants.{MOST_BOX_CELLS}
use Rattle.quilted.specs.PlanLimit.{PlanPassesAt, PlanStaysWithin}

-- what `first_past` asks for
pub record CanBeCounted (plan : QuiltPlan) (output sample : Size) : Type 0 where
  pub block : 1 ≤ plan.block
  pub axes : HasAxes output
  pub frame : output.f ≡ 1
  pub some : HasCells sample

-- the cell is above, or left of it in the rows up to their end
abbrev pub IsPassed : ℕ → ℕ → ℕ → ℕ → ℕ → Type 0
IsPassed left top bottom x y = (y < top) ⊎ ((y < bottom) × (x < left))

-- the end of the block that has a coordinate
abbrev pub end_on : ℕ → ℕ → QuiltPlan → ℕ → ℕ
end_on T S plan q = (block_on T S plan q).corner + (block_on T S plan q).len

-- blocks are counted up to a cell
pub record AreCounted (plan : QuiltPlan) (output sample : Size) (left top cells : ℕ) : Type 0 where
  pub rects : List Box3
  pub blocks : AreFirstBoxes (plan_block plan output sample) output rects
  pub room : left < output.w
  pub most : top ≤ output.h
  pub held : (x y : ℕ) → x < output.w → y < output.h → IsPassed left top (end_on output.h sample.h plan top) x y → IsInOne rects (spot x y 0)
  pub only : (x y : ℕ) → x < output.w → y < output.h → IsInOne rects (spot x y 0) → IsPassed left top (end_on output.h sample.h plan top) x y
  pub cells_are : cells ≡ cells_of_boxes rects
  pub within : cells ≤ MOST_BOX_CELLS

module _ (plan : QuiltPlan) (output sample : Size) (can : CanBeCounted plan output sample) where
  pub none_counted : AreCounted plan output sample 0 0 0
  none_counted = record {
    rects = [];
    blocks = tt;
    room = omega (arith, can.axes.w.0);
    most = omega arith;
    held = λ x y lx ly at. absurd (⊎_elim (λ (lt : y < 0). omega (arith, lt)) (λ (both : (y < end_on output.h sample.h plan 0) × (x < 0)). omega (arith, both.1)) at);
    only = λ x y lx ly none. absurd none;
    cells_are = refl;
    within = omega arith;
  }

  module _ (left top cells : ℕ) (counted : AreCounted plan output sample left top cells) where
    -- where all rows are passed, no block is left
    pub all_counted : output.h ≤ top → PlanStaysWithin plan output sample
    all_counted le = whole_within (plan_block plan output sample) output counted.rects counted.blocks
        (λ rect after.
        let at : IsSpot output (place_of output after.index) after.index = spot_of_index output (place_of output after.index) after.index can.frame (place_at output after.index can.axes.w.0 can.axes.h.0 after.first.below) in
        after.first.here (subst (IsInOne counted.rects) (sym at.place) (counted.held at.x at.y at.column at.row (inl (omega (arith, at.row, le))))))
        (subst (λ n. n ≤ MOST_BOX_CELLS) counted.cells_are counted.within)

    module _ (lt : top < output.h) where
      across : SpanFits output.w (block_len output.w sample.w plan) left (block_on output.w sample.w plan left)
      across = grid_fits output.w (block_len output.w sample.w plan) plan.overlap left (omega (arith, can.block, can.some.w, can.axes.w.0)) counted.room

      down : SpanFits output.h (block_len output.h sample.h plan) top (block_on output.h sample.h plan top)
      down = grid_fits output.h (block_len output.h sample.h plan) plan.overlap top (omega (arith, can.block, can.some.h, can.axes.h.0)) lt

      abbrev pub bottom : ℕ
      bottom = end_on output.h sample.h plan top

      -- the first cell outside the blocks is this one
      abbrev index : ℕ
      index = left + output.w * top

      below : index < cell_count output
      below = subst (λ f. index < output.w * (output.h * f)) (sym can.frame) (subst (λ n. index < output.w * n) (let e : output.h ≡ output.h * 1 = omega arith in e) (in_rows output.w output.h top left counted.room lt))

      place : place_of output index ≡ spot left top 0
      place = one_place output _ _ _ (place_at output index can.axes.w.0 can.axes.h.0 below) own
        where
          no_rows : left + output.w * (top + output.h * 0) ≡ index
          no_rows = ap (λ n. left + output.w * n) (let e : top + output.h * 0 ≡ top = omega arith in e)

          own : index_in output (spot left top 0) ≡ Some index
          own = index_of_spot output left top 0 counted.room lt (omega (arith, can.frame)) ∙ ap Some no_rows

      earlier_passed : (x y : ℕ) → x < output.w → x + output.w * y < index → IsPassed left top bottom x y
      earlier_passed x y lx less =
          ⊎_elim (λ above. inl above)
          (λ (from : top ≤ y).
          let row : y ≡ top = ⊎_elim (λ (later : top < y). absurd (omega (arith, less, counted.room, mul-le-mul_left output.w (let le : top + 1 ≤ y = omega arith in le)))) (λ (le : y ≤ top). omega (arith, le, from)) (cases_lt top y) in
          let same : output.w * y ≡ output.w * top = ap (λ n. output.w * n) row in
          inr (omega (arith, row, down.covers), omega (arith, less, same)))
          (cases_lt y top)

      first : IsFirstWithout (cell_count output) (λ i. IsInOne counted.rects (place_of output i)) index
      first = record {
        below = below;
        before = λ earlier less.
            let at : IsSpot output (place_of output earlier) earlier = spot_of_index output (place_of output earlier) earlier can.frame (place_at output earlier can.axes.w.0 can.axes.h.0 (omega (arith, less, below))) in
            subst (IsInOne counted.rects) (sym at.place) (counted.held at.x at.y at.column at.row (earlier_passed at.x at.y at.column (omega (arith, less, at.index))));
        here = λ has. ⊎_elim (λ (less : top < top). omega (arith, less)) (λ (both : (top < bottom) × (left < left)). omega (arith, both.1)) (counted.only left top counted.room lt (subst (IsInOne counted.rects) place has));
      }

      abbrev pub rect : Box3
      rect = block_at plan output sample (spot left top 0)

      after : IsBoxAfter (plan_block plan output sample) output counted.rects rect
      after = record { index = index; first = first; is = ap (plan_block plan output sample) place }

      -- with its block they pass the bound
      pub counted_past : (number : ℕ) → number ≡ cells + cell_count rect.size → MOST_BOX_CELLS < number → PlanPassesAt plan output sample number
      counted_past number is past = record {
        rects = counted.rects;
        before = counted.blocks;
        within = subst (λ n. n ≤ MOST_BOX_CELLS) counted.cells_are counted.within;
        rect = rect;
        next = after;
        cells = is ∙ ap (λ n. n + cell_count rect.size) counted.cells_are;
        past = past;
      }

      -- which cells are passed with it
      reached : (x y : ℕ) → y < bottom → x < end_on output.w sample.w plan left → x < output.w → y < output.h → IsInOne (rect ∷ counted.rects) (spot x y 0)
      reached x y down_to along lx ly =
          ⊎_elim (λ above. inr (counted.held x y lx ly (inl above)))
          (λ (from : top ≤ y). ⊎_elim (λ before. inr (counted.held x y lx ly (inr (down_to, before))))
          (λ (on : left ≤ x). inl (in_box _ _ _ _ x y (record {
            left = omega (arith, on, across.before);
            right = along;
            top = omega (arith, from, down.before);
            bottom = down_to;
          }))) (cases_lt x left)) (cases_lt y top)

      bounded : (x y : ℕ) → x < output.w → y < output.h → IsInOne (rect ∷ counted.rects) (spot x y 0) → IsPassed (end_on output.w sample.w plan left) top bottom x y
      bounded x y lx ly has =
          ⊎_elim (λ on. let is = of_box (block_on output.w sample.w plan left).corner (block_on output.h sample.h plan top).corner (block_on output.w sample.w plan left).len (block_on output.h sample.h plan top).len x y on in inr (is.bottom, is.right))
          (λ old. ⊎_elim (λ above. inl above) (λ (both : (y < bottom) × (x < left)). inr (both.0, omega (arith, both.1, across.covers))) (counted.only x y lx ly old)) has

      pub one_more : (number : ℕ) → number ≡ cells + cell_count rect.size → number ≤ MOST_BOX_CELLS → (x y : ℕ)
          → (end_on output.w sample.w plan left < output.w → (x ≡ end_on output.w sample.w plan left) × (y ≡ top)) → (output.w ≤ end_on output.w sample.w plan left → (x ≡ 0) × (y ≡ bottom)) → AreCounted plan output sample x y number
      one_more number is within x y same next =
          ⊎_elim
          (λ ends. let at = same ends in subst (λ y. AreCounted plan output sample x y number) (sym at.1) (subst (λ x. AreCounted plan output sample x top number) (sym at.0) (record {
            rects = rect ∷ counted.rects;
            blocks = (after, counted.blocks);
            room = ends;
            most = counted.most;
            held = λ x y lx ly at. ⊎_elim (λ above. inr (counted.held x y lx ly (inl above))) (λ (both : (y < bottom) × (x < end_on output.w sample.w plan left)). reached x y both.0 both.1 lx ly) at;
            only = bounded;
            cells_are = total;
            within = within;
          })))
          (λ ends. let at = next ends in subst (λ y. AreCounted plan output sample x y number) (sym at.1) (subst (λ x. AreCounted plan output sample x bottom number) (sym at.0) (record {
            rects = rect ∷ counted.rects;
            blocks = (after, counted.blocks);
            room = omega (arith, can.axes.w.0);
            most = down.inside;
            held = λ x y lx ly at. ⊎_elim (λ (above : y < bottom). reached x y above (omega (arith, lx, ends)) lx ly) (λ (both : (y < end_on output.h sample.h plan bottom) × (x < 0)). absurd (omega (arith, both.1))) at;
            only = λ x y lx ly has. inl (⊎_elim (λ (above : y < top). let b : y < bottom = omega (arith, above, down.covers) in b) (λ (both : (y < bottom) × (x < end_on output.w sample.w plan left)). both.0) (bounded x y lx ly has));
            cells_are = total;
            within = within;
          })))
          (cases_lt (end_on output.w sample.w plan left) output.w)
        where
          total : number ≡ cells_of_boxes (rect ∷ counted.rects)
          total = omega (arith, is, counted.cells_are)
