-- The picture of a canvas whose map is full is the map's picture.
use Rattle.std.proofs.Common.{◌≡◌, ℕ, ◌<◌, [], length, get_or, refl, ap, sym, ◌∙◌, subst}
use Rattle.std.proofs.lemmas.List.{ext_get_or, length-map}
use Rattle.std.proofs.lemmas.Option.{get_or_from_slice_get, slice_get-map, slice_get-get_or}
use Rattle.std.specs.Prelude.{Option, Some, None, IsSome, map, option_and_then, option_map, unwrap_or}
use mathlib.Core.Bool.{false≢true}
use Rattle.cells.specs.declared.place.At.{At}
use Rattle.cells.specs.Places.{index_in, place_of, cell_count}
use Rattle.cells.specs.Parts.{count_from}
use Rattle.cells.specs.Cells.{Cells, cell_at}
use Rattle.cells.proofs.Raster.{place_at}
use Rattle.cells.proofs.CellLaws.{cell_is}
use Rattle.map_canvas.specs.Maps.{IsFull, map_at, sample_cell, picture_of}
use Rattle.map_canvas.specs.Canvases.{CanvasState, IsCanvas, StandsOver}
use Rattle.map_canvas.proofs.AfterLaws.{source_of_place}

module _ (canvas : CanvasState) (sample : Cells) (is : IsCanvas canvas) (stands : StandsOver canvas sample) (full : IsFull canvas.map) where
  same_length : length canvas.picture.cells ≡ length canvas.map.sources
  same_length = is.picture.count ∙ ap (count_from canvas.picture.size) is.part ∙ ap cell_count is.size ∙ sym is.map.count

  same_cell : (i : ℕ) → i < length canvas.map.sources → get_or canvas.picture.cells i [] ≡ sample_cell sample (get_or canvas.map.sources i None)
  same_cell i lt = sym taken ∙ ap (λ o. unwrap_or o []) (in_sample (map_at canvas.map p) refl) ∙ ap (sample_cell sample) source
    where
      p : At
      p = place_of canvas.map.size i

      inside : index_in canvas.map.size p ≡ Some i
      inside = place_at canvas.map.size i is.map.small.axes.w.0 is.map.small.axes.h.0 (subst (λ n. i < n) is.map.count lt)

      source : map_at canvas.map p ≡ get_or canvas.map.sources i None
      source = source_of_place canvas.map is.map i lt

      in_picture : cell_at canvas.picture p ≡ Some (get_or canvas.picture.cells i [])
      in_picture = cell_is canvas.picture is.picture p i (subst (λ size. index_in size p ≡ Some i) (sym is.size) inside)

      taken : unwrap_or (cell_at canvas.picture p) [] ≡ get_or canvas.picture.cells i []
      taken = ap (λ o. unwrap_or o []) in_picture

      in_sample : (o : Option At) → map_at canvas.map p ≡ o → cell_at canvas.picture p ≡ option_and_then (cell_at sample) o
      in_sample None e = absurd (false≢true (subst IsSome e (full p (subst IsSome (sym inside) refl))))
      in_sample (Some from) e = stands.bytes p from e

  same_cells : canvas.picture.cells ≡ map (sample_cell sample) canvas.map.sources
  same_cells = ext_get_or [] canvas.picture.cells (map (sample_cell sample) canvas.map.sources) (same_length ∙ sym (length-map canvas.map.sources (sample_cell sample))) (λ i lt.
      let below : i < length canvas.map.sources = subst (λ n. i < n) same_length lt in
      same_cell i below
      ∙ sym (get_or_from_slice_get (map (sample_cell sample) canvas.map.sources) i (sample_cell sample (get_or canvas.map.sources i None)) []
      (slice_get-map (sample_cell sample) canvas.map.sources i ∙ ap (option_map (sample_cell sample)) (slice_get-get_or canvas.map.sources i None below))))

  pub full_picture : canvas.picture ≡ picture_of canvas.map sample
  full_picture = λ k. record { size = is.size k; more = is.part k; k = stands.samples k; cells = same_cells k }
