-- A box of the target as a canvas of its own: what is there, and that its errors are those from the
-- target.
use Rattle.std.proofs.Common.{◌≡◌, ℕ, ◌+◌, ◌*◌, ◌<◌, List, [], get_or, true, false, ap, sym, ◌∙◌, arith}
use Rattle.std.proofs.lemmas.Int.{ints}
use Rattle.std.proofs.lemmas.List.{get_or-replicate}
use Rattle.std.specs.Prelude.{ℤ, pos, ◌+ℤ◌, ◌-ℤ◌, Bool, Some, if◌then◌else◌, replicate, unwrap_or}
use Rattle.boxes.specs.Pairs.{AreCounts}
use Rattle.boxes.proofs.Additions.{counts, sum_box_is}
use Rattle.boxes.proofs.Boxes.{box_equal}
use Rattle.boxes.proofs.Cells.{cell_inside}
use Rattle.cells.specs.declared.place.At.{At}
use Rattle.cells.specs.declared.place.Box3.{Box3}
use Rattle.cells.specs.declared.place.Size.{Size}
use Rattle.cells.specs.Boxes.{HoldsBox, cell_in}
use Rattle.cells.specs.Cells.{Cells, Holds, IsInsideOf, IsVolume, with_part}
use Rattle.cells.specs.Places.{cell_count, index_in, minus, plus, raster_index, spot}
use Rattle.cells.proofs.BoxLaws.{plus_minus}
use Rattle.cells.proofs.BoxTests.{each_of_axes}
use Rattle.cells.proofs.Raster.{in_rows, index_of_spot}
use Rattle.lane_kernels.specs.Sums.{sum_of_squared_differences}
use Rattle.map_canvas.specs.Canvases.{CanvasState}
use Rattle.map_canvas.specs.CellErrors.{cell_error, spot_error}
use Rattle.map_canvas.specs.Choices.{IsAfter, chosen, laid_from, new_source}
use Rattle.map_canvas.specs.Maps.{SourceMap, map_at, sample_cell}
use Rattle.match_error.specs.Errors.{error_sum}
use Rattle.targets.specs.Joined.{CanBeJoined, IsTargetBox, at_first}
use Rattle.targets.specs.Targets.{target_spot, target_sum}
use Rattle.targets.proofs.Joining.{same_cell, target_cell}

from_first : (p : At) → minus p (spot 0 0 0) ≡ p
from_first p = λ k. record { x = same p.x k; y = same p.y k; f = same p.f k }
  where
    same : (a : ℤ) → a -ℤ pos 0 ≡ a
    same a = omega (arith, ints)

at_spot : (p : At) → plus (spot 0 0 0) p ≡ p
at_spot p = λ k. record { x = same p.x k; y = same p.y k; f = same p.f k }
  where
    same : (a : ℤ) → pos 0 +ℤ a ≡ a
    same a = omega (arith, ints)

-- a box at the first cell lies in an output of its size
pub first_holds : (size : Size) → HoldsBox size (spot 0 0 0) size
first_holds size = record {
  x = record { from = omega (arith, ints); to = omega (arith, ints) };
  y = record { from = omega (arith, ints); to = omega (arith, ints) };
  f = record { from = omega (arith, ints); to = omega (arith, ints) };
}

-- where all cells of a box at the first cell are new, each has its new source
pub all_new : (rect : Box3) (from : At) (m after : SourceMap) (choice : List Bool) → IsAfter m (laid_from (at_first rect) from) choice after → choice ≡ replicate (cell_count rect.size) true
    → (x y f : ℕ) → x < rect.size.w → y < rect.size.h → f < rect.size.f → map_at after (spot x y f) ≡ Some (plus from (spot x y f))
all_new rect from m after choice is all x y f lx ly lf =
    let i = raster_index rect.size x y f in
    let below : i < cell_count rect.size = in_rows rect.size.w (rect.size.h * rect.size.f) (y + rect.size.h * f) x lx (in_rows rect.size.h rect.size.f f y ly lf) in
    let placement = laid_from (at_first rect) from in
    let number : index_in rect.size (minus (spot x y f) (spot 0 0 0)) ≡ Some i = ap (index_in rect.size) (from_first (spot x y f)) ∙ index_of_spot rect.size x y f lx ly lf in
    let new : chosen choice (index_in rect.size (minus (spot x y f) (spot 0 0 0))) ≡ true =
    ap (chosen choice) number ∙ ap (λ c. get_or c i false) all ∙ get_or-replicate (cell_count rect.size) i true false below in
    is.sources (spot x y f)
    ∙ ap (λ b. if b then Some (new_source placement (spot x y f)) else map_at m (spot x y f)) new
    ∙ ap (λ p. Some (plus from p)) (from_first (spot x y f))

module _ (sample target : Cells) (volume : IsVolume sample) (can : CanBeJoined sample target) (rect : Box3) (canvas : CanvasState) (box : IsTargetBox sample target (with_part sample target) rect canvas)
    (from : At) (inside : HoldsBox target.size rect.corner rect.size) (held : Holds sample from rect.size) where
  aim_spot : (x y f : ℕ) → x < rect.size.w → y < rect.size.h → f < rect.size.f
      → spot_error canvas.map (with_part sample target) (laid_from (at_first rect) from) x y f ≡ target_spot target sample (laid_from rect from) x y f
  aim_spot x y f lx ly lf =
      let both = with_part sample target in
      let old = cell_in rect x y f in
      let counted : AreCounts rect.size x y f = record { column = lx; row = ly; frame = lf } in
      let there : IsInsideOf sample (plus from (spot x y f)) = held (plus from (spot x y f)) (cell_inside (record { corner = from; size = rect.size }) x y f counted) in
      ap (λ p. cell_error both (map_at canvas.map p) (plus from (minus p (spot 0 0 0)))) (at_spot (spot x y f))
      ∙ ap (λ p. cell_error both (map_at canvas.map (spot x y f)) (plus from p)) (from_first (spot x y f))
      ∙ ap (λ source. cell_error both source (plus from (spot x y f))) (box.sources x y f lx ly lf)
      ∙ ap (λ cell. sum_of_squared_differences (unwrap_or cell []) (sample_cell both (Some (plus from (spot x y f))))) (target_cell sample target volume can old (each_of_axes target.size rect inside old (cell_inside rect x y f counted)))
      ∙ ap (λ cell. sum_of_squared_differences (sample_cell target (Some old)) (unwrap_or cell [])) (same_cell sample target volume can (plus from (spot x y f)) there)
      ∙ ap (λ p. sum_of_squared_differences (sample_cell target (Some old)) (sample_cell sample (Some (plus from p)))) (sym (plus_minus rect.corner (spot x y f)))

  pub aim_sum : error_sum canvas.map (with_part sample target) (laid_from (at_first rect) from) ≡ target_sum target sample (laid_from rect from)
  aim_sum =
      sum_box_is rect.size _ ∙ box_equal counts rect.size _ _ aim_spot ∙ sym (sum_box_is rect.size _)
