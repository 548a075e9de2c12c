-- The map after a choice is a map.
use Rattle.std.proofs.Common.{◌≡◌, ℕ, ◌<◌, Bool, true, false, List, refl, sym, subst}
use Rattle.std.proofs.lemmas.Option.{get_or_from_slice_get}
use Rattle.std.specs.Prelude.{Option, Some, None, IsSome, IfSome, map, if◌then◌else◌}
use Rattle.cells.specs.declared.place.At.{At}
use Rattle.cells.specs.Cells.{Cells, IsVolume}
use Rattle.cells.specs.Places.{index_in, place_of, places}
use Rattle.cells.proofs.PlaceLists.{count_over, entry_over}
use Rattle.cells.proofs.Raster.{index_below}
use Rattle.map_canvas.specs.declared.canvas.Placement.{Placement}
use Rattle.map_canvas.specs.Maps.{IsMap, IsSource, SourceMap, map_at, source_at}
use Rattle.map_canvas.specs.Choices.{Fits, after_at, box_index, chosen, map_after, new_source}
use Rattle.map_canvas.proofs.Filling.{new_sources}

-- a source of a map is one
source_is : (m : SourceMap) → IsMap m → (p : At) → IfSome (map_at m p) IsSource
source_is m is p = by (index_in m.size p) refl
  where
    by : (o : Option ℕ) → index_in m.size p ≡ o → IfSome (source_at m.sources o) IsSource
    by None e = tt
    by (Some i) e = is.sources i None (subst (λ n. i < n) (sym is.count) (index_below m.size p i e))

module _ (m : SourceMap) (sample : Cells) (placement : Placement) (choice : List Bool) (volume : IsVolume sample) (is : IsMap m) (fits : Fits m.size sample placement) where
  source_after : (p : At) → IfSome (after_at m placement choice p) IsSource
  source_after p = by (box_index placement p) refl
    where
      one : (i : ℕ) → box_index placement p ≡ Some i → (b : Bool) → IfSome (if b then Some (new_source placement p) else map_at m p) IsSource
      one i at true = ((new_sources m.size sample placement fits volume).cells p (subst IsSome (sym at) refl)).source
      one i at false = source_is m is p

      by : (o : Option ℕ) → box_index placement p ≡ o → IfSome (after_at m placement choice p) IsSource
      by None e = subst (λ o. IfSome (if chosen choice o then Some (new_source placement p) else map_at m p) IsSource) (sym e) (source_is m is p)
      by (Some i) e = one i e (chosen choice (box_index placement p))

  pub after_is_map : IsMap (map_after m placement choice)
  after_is_map = record {
    small = is.small;
    count = count_over (after_at m placement choice) m.size;
    sources = λ i d lt. subst (λ source. IfSome source IsSource)
        (sym (get_or_from_slice_get (map (after_at m placement choice) (places m.size)) i (after_at m placement choice (place_of m.size i)) d
        (entry_over (after_at m placement choice) m.size i (subst (λ n. i < n) (count_over (after_at m placement choice) m.size) lt))))
        (source_after (place_of m.size i));
  }
