-- The products' sums, each below the prime, are the overlap errors at all offsets.
use Rattle.std.proofs.Common.{◌≡◌, ℕ, suc, ◌+◌, ◌%◌, ◌<◌, ◌^◌, List, length, get_or, map, add-one, refl, sym, ap, ◌∙◌, subst, arith}
use Rattle.std.specs.Prelude.{Some, IsSome, option_map, slice_get}
use Rattle.std.proofs.lemmas.List.{length-map}
use Rattle.std.proofs.lemmas.List.FromFn.{length-map-range_with_len}
use Rattle.std.proofs.lemmas.Option.{slice_get-get_or, slice_get-map}
use Rattle.cells.specs.declared.place.Box3.{Box3}
use Rattle.cells.specs.declared.place.Size.{Size}
use Rattle.cells.specs.Boxes.{cell_in}
use Rattle.cells.specs.Cells.{Cells, Holds, IsInsideOf, IsVolume}
use Rattle.cells.specs.Places.{HasAxes, IsInside, IsSmall, raster_index, spot}
use Rattle.cells.proofs.BoxLaws.{plus_minus}
use Rattle.cells.proofs.CellLaws.{indexed_has_cell}
use Rattle.cells.proofs.PartBoxes.{inside_sum_fits}
use Rattle.cells.proofs.Raster.{index_of_spot}
use Rattle.boxes.specs.Pairs.{AreCounts, at_index}
use Rattle.boxes.proofs.Indices.{index_below}
use Rattle.cyclic_products.specs.declared.residues.TheConstants.{PRIME}
use Rattle.cyclic_products.proofs.Offsets.{index_of_offset}
use Rattle.map_canvas.specs.Maps.{IsOver, SourceMap}
use Rattle.match_error.specs.Errors.{error_sum}
use Rattle.offset_errors.specs.declared.layout.Layout.{Layout}
use Rattle.offset_errors.specs.Errors.{AreErrors, IsEnough, listed_sums}
use Rattle.offset_errors.specs.Numbers.{box_number, part_number}
use Rattle.offset_errors.specs.Offsets.{IsInSample, box_list, part_list}
use Rattle.offset_errors.specs.Padded.{in_box, moved}
use Rattle.offset_errors.specs.Summed.{summed}
use Rattle.offset_errors.proofs.BoxErrors.{error_at_offset}
use Rattle.offset_errors.proofs.SummedLists.{offset_below, summed_at, summed_length}

-- each cell of a part that the sample holds
pub in_sample : (sample : Cells) (part : Box3) → IsVolume sample → HasAxes part.size → Holds sample part.corner part.size → IsInSample sample part
in_sample sample part is axes held = record {
  axes = axes;
  cells = λ x y f are. indexed_has_cell sample is.count (cell_in part x y f) (inside x y f are);
  sums = λ x y f are. inside_sum_fits sample is part.corner (spot x y f) (inside x y f are);
}
  where
    inside : (x y f : ℕ) → AreCounts part.size x y f → IsInsideOf sample (cell_in part x y f)
    inside x y f are =
        held (cell_in part x y f)
        (subst (IsInside part.size) (sym (plus_minus part.corner (spot x y f))) (subst IsSome (sym (index_of_spot part.size x y f are.column are.row are.frame)) refl))

pub box_length : (n : ℕ) (pad : Size) (m : SourceMap) (sample : Cells) (rect : Box3) (j : ℕ) → length (box_list n pad m sample rect j) ≡ n
box_length n pad m sample rect j = length-map-range_with_len (at_index pad (in_box rect.size (box_number m sample rect j))) 0 n

pub part_length : (n : ℕ) (pad lead : Size) (sample : Cells) (part : Box3) (j : ℕ) → length (part_list n pad lead sample part j) ≡ n
part_length n pad lead sample part j = length-map-range_with_len (at_index pad (moved lead part.size (part_number sample part.corner j))) 0 n

pub all_errors : (m : SourceMap) (sample : Cells) (rect part : Box3) (layout : Layout) (sums : List ℕ) → IsSmall m.size → IsVolume sample → IsOver m sample
    → IsEnough rect.size part.size layout → sums ≡ map (λ x. x % PRIME) (listed_sums layout m sample rect part (sample.k + 1))
    → AreErrors m sample (record { rect = rect; part = part; layout = layout; sums = sums })
all_errors m sample rect part layout sums small is over enough are = record {
  each = λ placement x y f fits at.
      let n = 2 ^ layout.levels in
      let pad = layout.pad in
      let lead = layout.lead in
      let d = raster_index pad x y f in
      let k = index_of_offset n d in
      let boxes = box_list n pad m sample rect in
      let parts = part_list n pad lead sample part in
      let all = summed (suc sample.k) boxes parts in
      let long : (j : ℕ) → length (boxes j) ≡ n = box_length n pad m sample rect in
      let same : (j : ℕ) → length (parts j) ≡ n = part_length n pad lead sample part in
      let below : d < n = omega (arith, index_below pad x y f at.below, enough.cells) in
      let size : length all ≡ n = summed_length n boxes parts long same (suc sample.k) in
      let within : k < length all = omega (arith, size, offset_below n d below) in
      let entry : get_or all k 0 % PRIME ≡ error_sum m sample placement =
      (summed_at n boxes parts long same (suc sample.k) d below).same
      ∙ error_at_offset m sample placement small is over fits n pad lead rect part x y f enough.both enough.cells at
      in
      let e : sums ≡ map (λ x. x % PRIME) all = are ∙ ap (λ last. map (λ x. x % PRIME) (summed last boxes parts)) (add-one sample.k) in
      let count : length sums ≡ n = ap length e ∙ length-map all (λ x. x % PRIME) ∙ size in
      (λ i. slice_get (e i) (index_of_offset (count i) d))
      ∙ slice_get-map (λ x. x % PRIME) all k
      ∙ ap (option_map (λ x. x % PRIME)) (slice_get-get_or all k 0 within)
      ∙ ap Some entry;
}
