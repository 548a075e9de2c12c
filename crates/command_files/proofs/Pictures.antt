-- The picture of a map over a sample has no byte that the sample doesn't have.
use Rattle.std.proofs.Common.{◌≡◌, ℕ, ◌+◌, ◌<◌, List, [], ◌∷◌, ◌++◌, length, get_or, refl, ap, sym, ◌∙◌, subst, arith, length-append}
use Rattle.std.proofs.lemmas.List.{get_or_append_left, get_or-append-add, length-map}
use Rattle.std.proofs.lemmas.List.Elements.{All-append, All-from_recursion, recursion_from_All}
use Rattle.std.proofs.lemmas.Option.{get_or_from_slice_get, slice_get-map, slice_get-get_or}
use Rattle.std.specs.Prelude.{Option, Some, None, IsSome, All, map, option_map, unwrap_or}
use Rattle.std.specs.List.{AllByRecursion, concat}
use mathlib.Core.Bool.{false≢true}
use Rattle.cells.specs.declared.place.At.{At}
use Rattle.cells.specs.Places.{place_of}
use Rattle.cells.specs.Cells.{Cells, IsVolume, HasCell, bytes_of, index_of}
use Rattle.cells.proofs.Raster.{has_index, place_at}
use Rattle.cells.proofs.CellLaws.{cell_by_index, cell_has_index}
use Rattle.cells.proofs.PartLaws.{index_from_below}
use Rattle.map_canvas.specs.Maps.{SourceMap, IsMap, IsFull, map_at, picture_of, sample_cell}
use Rattle.map_canvas.proofs.AfterLaws.{source_of_place}

module _ (P : ℕ → Type 0) where
  -- what holds of each byte of each cell holds of all bytes, and the reverse
  pub all_bytes : (cells : List (List ℕ)) → AllByRecursion (All P) cells → All P (concat cells)
  all_bytes [] each = λ k d lt. absurd (omega arith)
  all_bytes (cell ∷ cells) each = All-append P cell (concat cells) each.0 (all_bytes cells each.1)

  front : (xs ys : List ℕ) → All P (xs ++ ys) → All P xs
  front xs ys all k d lt = subst P (get_or_append_left xs ys d k lt) (all k d (omega (arith, length-append xs ys)))

  behind : (xs ys : List ℕ) → All P (xs ++ ys) → All P ys
  behind xs ys all k d lt = subst P (get_or-append-add xs ys k d) (all (length xs + k) d (omega (arith, length-append xs ys)))

  pub each_cell : (cells : List (List ℕ)) → All P (concat cells) → AllByRecursion (All P) cells
  each_cell [] all = tt
  each_cell (cell ∷ cells) all = (front cell (concat cells) all, each_cell cells (behind cell (concat cells) all))

  module _ (sample : Cells) (is : IsVolume sample) (bytes : All P (bytes_of sample)) where
    cell_bytes : (from : At) → HasCell sample from → All P (sample_cell sample (Some from))
    cell_bytes from has =
        let i = unwrap_or (index_of sample from) 0 in
        let at : index_of sample from ≡ Some i = has_index (index_of sample from) 0 (cell_has_index sample from has) in
        let below : i < length sample.cells = subst (λ n. i < n) (sym is.count) (index_from_below sample.size sample.more from i at) in
        subst (All P) (sym (ap (λ o. unwrap_or o []) (cell_by_index sample is from i at))) (All-from_recursion (All P) sample.cells (each_cell sample.cells bytes) i [] below)

    pub picture_bytes : (m : SourceMap) → IsMap m → IsFull m → ((p from : At) → map_at m p ≡ Some from → HasCell sample from) → All P (bytes_of (picture_of m sample))
    picture_bytes m is_map full over = all_bytes (map (sample_cell sample) m.sources) (recursion_from_All (All P) (map (sample_cell sample) m.sources) (λ i d lt. cell_at_index i d (subst (λ n. i < n) (length-map m.sources (sample_cell sample)) lt)))
      where
        by : (i : ℕ) → i < length m.sources → (o : Option At) → get_or m.sources i None ≡ o → All P (sample_cell sample o)
        by i lt None e = absurd (false≢true (subst IsSome (source_of_place m is_map i lt ∙ e) (full (place_of m.size i) (subst IsSome (sym (place_at m.size i is_map.small.axes.w.0 is_map.small.axes.h.0 (subst (λ n. i < n) is_map.count lt))) refl))))
        by i lt (Some from) e = cell_bytes from (over (place_of m.size i) from (source_of_place m is_map i lt ∙ e))

        cell_at_index : (i : ℕ) (d : List ℕ) → i < length m.sources → All P (get_or (map (sample_cell sample) m.sources) i d)
        cell_at_index i d lt =
            let here : get_or (map (sample_cell sample) m.sources) i d ≡ sample_cell sample (get_or m.sources i None) =
            get_or_from_slice_get (map (sample_cell sample) m.sources) i (sample_cell sample (get_or m.sources i None)) d
            (slice_get-map (sample_cell sample) m.sources i ∙ ap (option_map (sample_cell sample)) (slice_get-get_or m.sources i None lt)) in
            subst (All P) (sym here) (by i lt (get_or m.sources i None) refl)
