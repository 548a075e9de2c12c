-- How far the first boxes have come where they are counted: all frames before the first cell outside them, in the
-- frames of its box all rows above it, and in the rows of its box all columns left of it.
use Rattle.std.proofs.Common.{◌≡◌, ◌⊎◌, ℕ, ◌+◌, ◌-◌, ◌*◌, ◌<◌, ◌≤◌, List, [], ◌∷◌, min, refl, ap, sym, ◌∙◌, subst, arith, inl, inr, ⊎_elim}
use Rattle.std.proofs.lemmas.Bool.{cases_lt}
use Rattle.std.specs.Prelude.{Option, Some}
use Rattle.cells.specs.Boxes.{IsInOne}
use Rattle.cells.specs.declared.place.At.{At}
use Rattle.cells.specs.declared.place.Box3.{Box3}
use Rattle.cells.specs.declared.place.Size.{Size}
use Rattle.cells.specs.Firsts.{IsFirstWithout}
use Rattle.cells.specs.Places.{HasAxes, cell_count, index_in, place_of, spot}
use Rattle.cells.proofs.Raster.{index_below, index_of_spot, one_place, place_at}
use Rattle.boxes.specs.declared.spans.Span.{Span}
use Rattle.boxes.specs.FirstBoxes.{AreFirstBoxes, BoxesPassAt, BoxesStayWithin, IsBoxAfter, cells_of_boxes}
use Rattle.boxes.specs.Spans.{SpanFits, patch_corner}
use Rattle.boxes.proofs.FirstBoxes.{whole_within}
use Rattle.boxes.proofs.SpanLaws.{difference, grid_fits}
use Rattle.limits.specs.declared.bounds.TheConstants.{MOST_BOX_CELLS}
use Rattle.least_choice.proofs.Digits.{lex, lex_less}
use Rattle.grown.specs.declared.limit.Boxes.{Boxes}
use Rattle.grown.specs.declared.limit.Kind.{Kind}
use Rattle.grown.specs.declared.limit.Kind.TheVariants.{Copies, Patches}
use Rattle.grown.specs.Counted.{AreBoxes, HasLen, HasLens, box_at, span_on}
use Rattle.grown.proofs.Spots.{IsSpot, in_box, of_box, spot_at}

-- a patch lies in the output, and has its cell
patch_on : (T len overlap q : ℕ) → 1 ≤ len → len ≤ T → q < T → SpanFits T len q (record { corner = patch_corner T len overlap q; len = len; from = 0 })
patch_on T len overlap q some room inside = by (patch_corner T len overlap q) (let e : patch_corner T len overlap q ≡ min (T - len) (q - min overlap (len - 1)) = omega (arith, difference q (min overlap (len - 1))) in e)
  where
    by : (corner : ℕ) → corner ≡ min (T - len) (q - min overlap (len - 1)) → SpanFits T len q (record { corner = corner; len = len; from = 0 })
    by corner e = record {
      some = some;
      inside = omega (arith, e, room);
      sources = omega arith;
      before = omega (arith, e);
      covers = omega (arith, e, room, some, inside);
    }

pub span_fits : (kind : Kind) (T len overlap q : ℕ) → HasLen kind T len → q < T → SpanFits T len q (span_on kind T len overlap q)
span_fits Copies T len overlap q has inside = grid_fits T len overlap q has.0 inside
span_fits Patches T len overlap q has inside = patch_on T len overlap q has.0 has.1 inside

abbrev pub end_of : Span → ℕ
end_of span = span.corner + span.len

-- the spans along each axis
module _ (boxes : Boxes) (output : Size) where
  abbrev pub along : ℕ → Span
  along x = span_on boxes.kind output.w boxes.len.w boxes.overlap x

  abbrev pub down : ℕ → Span
  down y = span_on boxes.kind output.h boxes.len.h boxes.overlap y

  abbrev pub over : ℕ → Span
  over f = span_on boxes.kind output.f boxes.len.f boxes.overlap f

-- the cell is in a frame before, or in one up to their end above, or left in the rows up to theirs
abbrev pub IsPassed : ℕ → ℕ → ℕ → ℕ → ℕ → ℕ → ℕ → ℕ → Type 0
IsPassed left top bottom front back x y f = (f < front) ⊎ ((f < back) × ((y < top) ⊎ ((y < bottom) × (x < left))))

-- the cell up to which boxes are counted is one of the output, or the first one after it
pub record IsRoom (output : Size) (left top front : ℕ) : Type 0 where
  pub column : left < output.w
  pub row : top < output.h
  pub frame : front ≤ output.f

-- the cell after a box: the next one in its row, or else the first one below its rows, or else the first one after its
-- frames
pub record IsNextCell (output : Size) (top front right bottom back x y f : ℕ) : Type 0 where
  pub row : right < output.w → (x ≡ right) × (y ≡ top) × (f ≡ front)
  pub below : output.w ≤ right → bottom < output.h → (x ≡ 0) × (y ≡ bottom) × (f ≡ front)
  pub after : output.w ≤ right → output.h ≤ bottom → (x ≡ 0) × (y ≡ 0) × (f ≡ back)

-- the same of spans that are others
pub next_of : (output : Size) (top front x y f : ℕ) (along along' down down' over over' : Span) → along ≡ along' → down ≡ down' → over ≡ over'
    → IsNextCell output top front (end_of along) (end_of down) (end_of over) x y f → IsNextCell output top front (end_of along') (end_of down') (end_of over') x y f
next_of output top front x y f along along' down down' over over' a d o next =
    subst (λ (span : Span). IsNextCell output top front (end_of span) (end_of down') (end_of over') x y f) a
    (subst (λ (span : Span). IsNextCell output top front (end_of along) (end_of span) (end_of over') x y f) d
    (subst (λ (span : Span). IsNextCell output top front (end_of along) (end_of down) (end_of span) x y f) o next))

-- boxes are counted up to a cell
pub record AreCounted (boxes : Boxes) (output : Size) (box : At → Option Box3) (left top front cells : ℕ) : Type 0 where
  pub rects : List Box3
  pub are : AreFirstBoxes box output rects
  pub held : (x y f : ℕ) → x < output.w → y < output.h → f < output.f → IsPassed left top (end_of (down boxes output top)) front (end_of (over boxes output front)) x y f → IsInOne rects (spot x y f)
  pub only : (x y f : ℕ) → x < output.w → y < output.h → f < output.f → IsInOne rects (spot x y f) → IsPassed left top (end_of (down boxes output top)) front (end_of (over boxes output front)) x y f
  pub cells_are : cells ≡ cells_of_boxes rects

-- three counts that are others
moved : (P : ℕ → ℕ → ℕ → Type 0) (x y f a b c : ℕ) → (x ≡ a) × (y ≡ b) × (f ≡ c) → P a b c → P x y f
moved P x y f a b c same p = subst (λ x. P x y f) (sym same.0) (subst (λ y. P a y f) (sym same.1) (subst (λ f. P a b f) (sym same.2) p))

module _ (boxes : Boxes) (output : Size) (axes : HasAxes output) (lens : HasLens boxes output) where
  pub none_room : IsRoom output 0 0 0
  none_room = record { column = omega (arith, axes.w.0); row = omega (arith, axes.h.0); frame = omega arith }

  pub none_counted : (box : At → Option Box3) → AreCounted boxes output box 0 0 0 0
  none_counted box = record {
    rects = [];
    are = tt;
    held = λ x y f lx ly lf at. absurd (⊎_elim (λ (less : f < 0). omega (arith, less)) (λ (both : (f < end_of (over boxes output 0)) × ((y < 0) ⊎ ((y < end_of (down boxes output 0)) × (x < 0)))).
        ⊎_elim (λ (less : y < 0). omega (arith, less)) (λ (row : (y < end_of (down boxes output 0)) × (x < 0)). omega (arith, row.1)) both.1) at);
    only = λ x y f lx ly lf none. absurd none;
    cells_are = refl;
  }

  module _ (left top front : ℕ) (room : IsRoom output left top front) where
    abbrev bottom : ℕ
    bottom = end_of (down boxes output top)

    abbrev back : ℕ
    back = end_of (over boxes output front)

    abbrev right : ℕ
    right = end_of (along boxes output left)

    abbrev rect : Box3
    rect = box_at boxes output left top front

    module _ (box : At → Option Box3) (cells : ℕ) (counted : AreCounted boxes output box left top front cells) where
      -- where all frames are passed, no box is left
      pub all_counted : output.f ≤ front → cells ≤ MOST_BOX_CELLS → BoxesStayWithin box output
      all_counted le within =
          whole_within box output counted.rects counted.are
          (λ rect after.
          let at : IsSpot output (place_of output after.index) after.index = spot_at output axes after.index after.first.below in
          after.first.here (subst (IsInOne counted.rects) (sym at.place) (counted.held at.x at.y at.f at.column at.row at.frame (inl (omega (arith, at.frame, le))))))
          (subst (λ n. n ≤ MOST_BOX_CELLS) counted.cells_are within)

    module _ (lt : front < output.f) where
      across : SpanFits output.w boxes.len.w left (along boxes output left)
      across = span_fits boxes.kind output.w boxes.len.w boxes.overlap left lens.w room.column

      downward : SpanFits output.h boxes.len.h top (down boxes output top)
      downward = span_fits boxes.kind output.h boxes.len.h boxes.overlap top lens.h room.row

      inward : SpanFits output.f boxes.len.f front (over boxes output front)
      inward = span_fits boxes.kind output.f boxes.len.f boxes.overlap front lens.f lt

      -- the room after a box
      pub room_after : (x y f : ℕ) → IsNextCell output top front right bottom back x y f → IsRoom output x y f
      room_after x y f next =
          ⊎_elim (λ (ends : right < output.w). moved (IsRoom output) x y f right top front (next.row ends) (record { column = ends; row = room.row; frame = room.frame }))
          (λ (full : output.w ≤ right).
          ⊎_elim (λ (ends : bottom < output.h). moved (IsRoom output) x y f 0 bottom front (next.below full ends) (record { column = omega (arith, axes.w.0); row = ends; frame = room.frame }))
          (λ (done : output.h ≤ bottom). moved (IsRoom output) x y f 0 0 back (next.after full done) (record { column = omega (arith, axes.w.0); row = omega (arith, axes.h.0); frame = inward.inside }))
          (cases_lt bottom output.h)) (cases_lt right output.w)

      -- the first cell outside the boxes is this one
      abbrev index : ℕ
      index = left + output.w * (top + output.h * front)

      own : index_in output (spot left top front) ≡ Some index
      own = index_of_spot output left top front room.column room.row lt

      below_all : index < cell_count output
      below_all = index_below output (spot left top front) index own

      place : place_of output index ≡ spot left top front
      place = one_place output (place_of output index) (spot left top front) index (place_at output index axes.w.0 axes.h.0 below_all) own

      in_rows : (x y f : ℕ) → y < output.h → y + output.h * f < top + output.h * front → IsPassed left top bottom front back x y f
      in_rows x y f ly lower =
          ⊎_elim (λ before. inl before) (λ (same : (f ≡ front) × (y < top)). inr (omega (arith, same.0, inward.covers), inl same.1)) (lex_less output.h y f top front ly room.row lower)

      in_row : (x y f : ℕ) → y < output.h → y + output.h * f ≡ top + output.h * front → x < left → IsPassed left top bottom front back x y f
      in_row x y f ly same before =
          ⊎_elim (λ early. inl early) (λ (is : (f ≡ front) × (y ≤ top)). inr (omega (arith, is.0, inward.covers), inr (omega (arith, is.1, downward.covers), before))) (lex output.h y f top front ly room.row (omega (arith, same)))

      earlier_passed : (x y f : ℕ) → x < output.w → y < output.h → x + output.w * (y + output.h * f) < index → IsPassed left top bottom front back x y f
      earlier_passed x y f lx ly less =
          ⊎_elim (λ lower. in_rows x y f ly lower) (λ (is : (y + output.h * f ≡ top + output.h * front) × (x < left)). in_row x y f ly is.0 is.1) (lex_less output.w x (y + output.h * f) left (top + output.h * front) lx room.column less)

      module _ (box : At → Option Box3) (told : AreBoxes boxes output box) (cells : ℕ) (counted : AreCounted boxes output box left top front cells) where
        own_not_passed : IsPassed left top bottom front back left top front → ⊥
        own_not_passed at = ⊎_elim (λ (less : front < front). omega (arith, less)) (λ (both : (front < back) × ((top < top) ⊎ ((top < bottom) × (left < left)))).
            ⊎_elim (λ (less : top < top). omega (arith, less)) (λ (row : (top < bottom) × (left < left)). omega (arith, row.1)) both.1) at

        first : IsFirstWithout (cell_count output) (λ i. IsInOne counted.rects (place_of output i)) index
        first = record {
          below = below_all;
          before = λ earlier less.
              let at : IsSpot output (place_of output earlier) earlier = spot_at output axes earlier (omega (arith, less, below_all)) in
              subst (IsInOne counted.rects) (sym at.place) (counted.held at.x at.y at.f at.column at.row at.frame (earlier_passed at.x at.y at.f at.column at.row (subst (λ i. i < index) at.index less)));
          here = λ has. own_not_passed (counted.only left top front room.column room.row lt (subst (IsInOne counted.rects) place has));
        }

        after : IsBoxAfter box output counted.rects rect
        after = record { index = index; first = first; is = ap box place ∙ told left top front }

        -- with its box they pass the bound
        pub counted_past : (number : ℕ) → number ≡ cells + cell_count rect.size → cells ≤ MOST_BOX_CELLS → MOST_BOX_CELLS < number → BoxesPassAt box output number
        counted_past number is within past = record {
          rects = counted.rects;
          before = counted.are;
          within = subst (λ n. n ≤ MOST_BOX_CELLS) counted.cells_are within;
          rect = rect;
          next = after;
          cells = is ∙ ap (λ n. n + cell_count rect.size) counted.cells_are;
          past = past;
        }

        -- which cells are passed with it
        reached : (x y f : ℕ) → x < output.w → y < output.h → f < output.f → x < right → y < bottom → f < back → IsInOne (rect ∷ counted.rects) (spot x y f)
        reached x y f lx ly lf to_right to_bottom to_back =
            ⊎_elim (λ before. inr (counted.held x y f lx ly lf (inl before)))
            (λ (late : front ≤ f). ⊎_elim (λ above. inr (counted.held x y f lx ly lf (inr (to_back, inl above))))
            (λ (low : top ≤ y). ⊎_elim (λ behind. inr (counted.held x y f lx ly lf (inr (to_back, inr (to_bottom, behind)))))
            (λ (on : left ≤ x). inl (in_box (along boxes output left) (down boxes output top) (over boxes output front) x y f (record {
              left = omega (arith, on, across.before);
              right = to_right;
              top = omega (arith, low, downward.before);
              bottom = to_bottom;
              front = omega (arith, late, inward.before);
              back = to_back;
            }))) (cases_lt x left)) (cases_lt y top)) (cases_lt f front)

        widened : (x y f : ℕ) → IsPassed left top bottom front back x y f → IsPassed right top bottom front back x y f
        widened x y f at =
            ⊎_elim (λ before. inl before)
            (λ (both : (f < back) × ((y < top) ⊎ ((y < bottom) × (x < left)))).
            ⊎_elim (λ above. inr (both.0, inl above)) (λ (row : (y < bottom) × (x < left)). inr (both.0, inr (row.0, omega (arith, row.1, across.covers)))) both.1) at

        bounded : (x y f : ℕ) → x < output.w → y < output.h → f < output.f → IsInOne (rect ∷ counted.rects) (spot x y f) → IsPassed right top bottom front back x y f
        bounded x y f lx ly lf has =
            ⊎_elim (λ on. let is = of_box (along boxes output left) (down boxes output top) (over boxes output front) x y f on in inr (is.back, inr (is.bottom, is.right)))
            (λ old. widened x y f (counted.only x y f lx ly lf old)) has

        -- its row is passed, up to the next cell in it; or its rows; or its frames
        in_its_row : (number : ℕ) → number ≡ cells + cell_count rect.size → AreCounted boxes output box right top front number
        in_its_row number is = record {
          rects = rect ∷ counted.rects;
          are = (after, counted.are);
          held = λ x y f lx ly lf at.
              ⊎_elim (λ before. inr (counted.held x y f lx ly lf (inl before)))
              (λ (both : (f < back) × ((y < top) ⊎ ((y < bottom) × (x < right)))).
              ⊎_elim (λ above. inr (counted.held x y f lx ly lf (inr (both.0, inl above)))) (λ (row : (y < bottom) × (x < right)). reached x y f lx ly lf row.1 row.0 both.0) both.1) at;
          only = bounded;
          cells_are = omega (arith, is, counted.cells_are);
        }

        below_its_rows : output.w ≤ right → (number : ℕ) → number ≡ cells + cell_count rect.size → AreCounted boxes output box 0 bottom front number
        below_its_rows full number is = record {
          rects = rect ∷ counted.rects;
          are = (after, counted.are);
          held = λ x y f lx ly lf at.
              ⊎_elim (λ before. inr (counted.held x y f lx ly lf (inl before)))
              (λ (both : (f < back) × ((y < bottom) ⊎ ((y < end_of (down boxes output bottom)) × (x < 0)))).
              ⊎_elim (λ above. reached x y f lx ly lf (omega (arith, lx, full)) above both.0) (λ (row : (y < end_of (down boxes output bottom)) × (x < 0)). absurd (omega (arith, row.1))) both.1) at;
          only = λ x y f lx ly lf has.
              ⊎_elim (λ before. inl before)
              (λ (both : (f < back) × ((y < top) ⊎ ((y < bottom) × (x < right)))).
              inr (both.0, inl (⊎_elim (λ (above : y < top). let b : y < bottom = omega (arith, above, downward.covers) in b) (λ (row : (y < bottom) × (x < right)). row.0) both.1))) (bounded x y f lx ly lf has);
          cells_are = omega (arith, is, counted.cells_are);
        }

        after_its_frames : output.w ≤ right → output.h ≤ bottom → (number : ℕ) → number ≡ cells + cell_count rect.size → AreCounted boxes output box 0 0 back number
        after_its_frames full done number is = record {
          rects = rect ∷ counted.rects;
          are = (after, counted.are);
          held = λ x y f lx ly lf at.
              ⊎_elim (λ (before : f < back). reached x y f lx ly lf (omega (arith, lx, full)) (omega (arith, ly, done)) before)
              (λ (both : (f < end_of (over boxes output back)) × ((y < 0) ⊎ ((y < end_of (down boxes output 0)) × (x < 0)))).
              absurd (⊎_elim (λ (above : y < 0). omega (arith, above)) (λ (row : (y < end_of (down boxes output 0)) × (x < 0)). omega (arith, row.1)) both.1)) at;
          only = λ x y f lx ly lf has.
              inl (⊎_elim (λ (before : f < front). let b : f < back = omega (arith, before, inward.covers) in b) (λ (both : (f < back) × ((y < top) ⊎ ((y < bottom) × (x < right)))). both.0) (bounded x y f lx ly lf has));
          cells_are = omega (arith, is, counted.cells_are);
        }

        pub one_more : (number : ℕ) → number ≡ cells + cell_count rect.size → (x y f : ℕ) → IsNextCell output top front right bottom back x y f → AreCounted boxes output box x y f number
        one_more number is x y f next =
            ⊎_elim (λ (ends : right < output.w). moved (λ x y f. AreCounted boxes output box x y f number) x y f right top front (next.row ends) (in_its_row number is))
            (λ (full : output.w ≤ right).
            ⊎_elim (λ (ends : bottom < output.h). moved (λ x y f. AreCounted boxes output box x y f number) x y f 0 bottom front (next.below full ends) (below_its_rows full number is))
            (λ (done : output.h ≤ bottom). moved (λ x y f. AreCounted boxes output box x y f number) x y f 0 0 back (next.after full done) (after_its_frames full done number is))
            (cases_lt bottom output.h)) (cases_lt right output.w)
