-- A source named for one cell, as a placement of one cell.
use Rattle.std.proofs.Common.{◌≡◌, ℕ, ◌<◌, refl, ap, sym, ◌∙◌, subst, arith, true, [], ◌∷◌}
use Rattle.std.proofs.lemmas.Int.{ints}
use mathlib.Core.Bool.{false≢true}
use Rattle.std.specs.Prelude.{ℤ, pos, ◌+ℤ◌, ◌-ℤ◌, Option, Some, None, is_some, option_and_then, slice_get, if◌then◌else◌}
use Rattle.cells.specs.declared.place.At.{At}
use Rattle.cells.specs.declared.place.Size.{Size}
use Rattle.cells.specs.Boxes.{IsInBox}
use Rattle.cells.specs.Cells.{Cells, HasCell, IsInsideOf, index_of}
use Rattle.cells.specs.Places.{IsInside, index_in, minus, plus, spot}
use Rattle.cells.proofs.BoxTests.{of_inside, on_axis_bounds}
use Rattle.cells.proofs.Raster.{index_of_spot}
use Rattle.map_canvas.specs.declared.canvas.Placement.{Placement}
use Rattle.map_canvas.specs.Maps.{SourceMap, map_at}
use Rattle.map_canvas.specs.Choices.{Fits, IsAfter, chosen}
use Rattle.boxes.proofs.Cells.{cell_of}
use Rattle.costs.proofs.Locality.{after_old, outside_old}
use Rattle.torus.specs.Filling.{IsNamedAt}

abbrev pub one_size : Size
one_size = record { w = 1; h = 1; f = 1 }

abbrev pub one_cell : At → At → Placement
one_cell p from = record { rect = record { corner = p; size = one_size }; from = from }

-- the box of one cell has that cell alone
only : (corner q : At) → IsInBox (record { corner = corner; size = one_size }) q → q ≡ corner
only corner q in_ =
    let at = cell_of (record { corner = corner; size = one_size }) q in_ in
    at.cell ∙ (λ k. record { x = same corner.x at.x at.counts.column k; y = same corner.y at.y at.counts.row k; f = same corner.f at.f at.counts.frame k })
  where
    same : (z : ℤ) (x : ℕ) → x < 1 → z +ℤ pos x ≡ z
    same z x lt = omega (arith, ints)

has_inside : (v : Cells) (p : At) → HasCell v p → IsInsideOf v p
has_inside v p has = by (index_of v p) refl
  where
    by : (i : Option ℕ) → index_of v p ≡ i → IsInsideOf v p
    by (Some i) e = ap is_some e
    by None e = absurd (false≢true (sym (ap (λ i. is_some (option_and_then (slice_get v.cells) i)) e) ∙ has))

pub one_fits : (size : Size) (sample : Cells) (p from : At) → IsInside size p → HasCell sample from → Fits size sample (one_cell p from)
one_fits size sample p from inside has =
    let on = of_inside size p inside in
    let x = on_axis_bounds size.w p.x on.x in
    let y = on_axis_bounds size.h p.y on.y in
    let f = on_axis_bounds size.f p.f on.f in
    record {
      some = record { w = omega arith; h = omega arith; f = omega arith };
      inside = record {
        x = record { from = x.0; to = omega (arith, ints, x.1) };
        y = record { from = y.0; to = omega (arith, ints, y.1) };
        f = record { from = f.0; to = omega (arith, ints, f.1) };
      };
      sources = λ q in_. subst (IsInsideOf sample) (sym (only from q in_)) (has_inside sample from has);
    }

pub one_named : (m after : SourceMap) (p from : At) → IsAfter m (one_cell p from) (true ∷ []) after → IsNamedAt m p from after
one_named m after p from is = record {
  size = is.size;
  here = is.sources p
      ∙ (λ k. if chosen (true ∷ []) (index_in one_size (zero k)) then Some (plus from (zero k)) else map_at m p)
      ∙ ap (λ i. if chosen (true ∷ []) i then Some (plus from (spot 0 0 0)) else map_at m p) (index_of_spot one_size 0 0 0 (omega arith) (omega arith) (omega arith))
      ∙ (λ k. Some (record { x = none from.x k; y = none from.y k; f = none from.f k }));
  others = λ q other. is.sources q ∙ after_old m (one_cell p from) (true ∷ []) q (outside_old (one_cell p from) (true ∷ []) q (λ in_. other (only p q in_)));
}
  where
    zero : minus p p ≡ spot 0 0 0
    zero = λ k. record { x = same p.x k; y = same p.y k; f = same p.f k }
      where
        same : (z : ℤ) → z -ℤ z ≡ pos 0
        same z = omega (arith, ints)

    none : (z : ℤ) → z +ℤ pos 0 ≡ z
    none z = omega (arith, ints)
