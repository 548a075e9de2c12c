-- The map after a choice is one: that which names after_at at each place of the output.
use Rattle.std.proofs.Common.{◌≡◌, ℕ, ◌<◌, List, length, map, refl, ap, sym, ◌∙◌, subst, arith, Bool, false}
use Rattle.std.proofs.lemmas.List.{ext_get_or}
use Rattle.std.proofs.lemmas.Option.{get_or_from_slice_get}
use Rattle.std.specs.Prelude.{Option, Some, None, IsSome, if◌then◌else◌}
use mathlib.Core.Bool.{false≢true}
use Rattle.cells.specs.declared.place.At.{At}
use Rattle.cells.specs.Places.{cell_count, index_in, place_of, places}
use Rattle.cells.specs.Cells.{Cells}
use Rattle.cells.proofs.Raster.{index_below, one_place, place_at}
use Rattle.cells.proofs.BoxTests.{each_of_axes}
use Rattle.cells.proofs.PlaceLists.{count_over, entry_over}
use Rattle.map_canvas.specs.declared.canvas.Placement.{Placement}
use Rattle.map_canvas.specs.Maps.{IsMap, SourceMap, map_at, source_at}
use Rattle.map_canvas.specs.Choices.{Fits, IsAfter, after_at, box_index, chosen, map_after, new_source}
use Rattle.map_canvas.proofs.AfterLaws.{source_of_place}

pub after_one : (m after : SourceMap) (placement : Placement) (choice : List Bool) → IsMap m → IsMap after → IsAfter m placement choice after → after ≡ map_after m placement choice
after_one m after placement choice is is' step = λ k. record { size = step.size k; sources = same k }
  where
    f : At → Option At
    f = after_at m placement choice

    count : length after.sources ≡ cell_count m.size
    count = is'.count ∙ ap cell_count step.size

    same : after.sources ≡ map f (places m.size)
    same = ext_get_or None after.sources (map f (places m.size)) (count ∙ sym (count_over f m.size)) (λ i lt.
        let below : i < cell_count m.size = omega (arith, count, lt) in
        sym (source_of_place after is' i lt) ∙ ap (λ size. map_at after (place_of size i)) step.size ∙ step.sources (place_of m.size i)
        ∙ sym (get_or_from_slice_get (map f (places m.size)) i (f (place_of m.size i)) None (entry_over f m.size i below)))

pub map_after_is : (m : SourceMap) (sample : Cells) (placement : Placement) (choice : List Bool) → IsMap m → Fits m.size sample placement → IsAfter m placement choice (map_after m placement choice)
map_after_is m sample placement choice is fits = record { size = refl; sources = λ p. by p (index_in m.size p) refl }
  where
    f : At → Option At
    f = after_at m placement choice

    outside_box : (p : At) (o : Option ℕ) → index_in m.size p ≡ None → box_index placement p ≡ o → chosen choice o ≡ false
    outside_box p None out e = refl
    outside_box p (Some i) out e =
        absurd (false≢true (subst IsSome out (each_of_axes m.size placement.rect fits.inside p (subst IsSome (sym e) refl))))

    by : (p : At) (o : Option ℕ) → index_in m.size p ≡ o → map_at (map_after m placement choice) p ≡ f p
    by p None e =
        ap (source_at (map f (places m.size))) e ∙ sym (ap (source_at m.sources) e)
        ∙ ap (λ b. if b then Some (new_source placement p) else map_at m p) (sym (outside_box p (box_index placement p) e refl))
    by p (Some i) e =
        let below = index_below m.size p i e in
        ap (source_at (map f (places m.size))) e ∙ get_or_from_slice_get (map f (places m.size)) i (f (place_of m.size i)) None (entry_over f m.size i below)
        ∙ ap f (one_place m.size (place_of m.size i) p i (place_at m.size i is.small.axes.w.0 is.small.axes.h.0 below) e)
