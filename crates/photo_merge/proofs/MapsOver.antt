-- A map that is made place by place: its source at each place, and that it is a map.
use Rattle.std.proofs.Common.{◌≡◌, ℕ, ◌<◌, List, [], ◌∷◌, get_or, refl, ap, sym, ◌∙◌, subst, arith}
use Rattle.std.proofs.lemmas.List.Elements.{All-from_get_or}
use Rattle.std.proofs.lemmas.Option.{get_or_from_slice_get}
use Rattle.std.specs.List.{range_with_len}
use Rattle.std.specs.Prelude.{map, Option, Some, None, IfSome, IsSome, unwrap_or}
use Rattle.cells.specs.declared.place.At.{At}
use Rattle.cells.specs.declared.place.Size.{Size}
use Rattle.cells.specs.Places.{IsInside, IsSmall, cell_count, index_in, place_of, places}
use Rattle.cells.proofs.PlaceLists.{count_over, entry_over}
use Rattle.cells.proofs.Raster.{has_index, index_below, index_parts, one_place, place_at}
use Rattle.map_canvas.specs.Maps.{IsMap, IsSource, SourceMap, map_at, source_at}

-- a place inside is the one at its index
pub record IsPlaceAt (size : Size) (p : At) (i : ℕ) : Type 0 where
  pub index : index_in size p ≡ Some i
  pub below : i < cell_count size
  pub place : place_of size i ≡ p

pub place_inside : (size : Size) (p : At) → IsInside size p → (i : ℕ) × IsPlaceAt size p i
place_inside size p inside =
    let i = unwrap_or (index_in size p) 0 in
    let at : index_in size p ≡ Some i = has_index (index_in size p) 0 inside in
    let parts = index_parts size p i at in
    let below : i < cell_count size = index_below size p i at in
    let there : index_in size (place_of size i) ≡ Some i = place_at size i (omega (arith, parts.x_on.below)) (omega (arith, parts.y_on.below)) below in
    (i, record { index = at; below = below; place = one_place size (place_of size i) p i there at })

map_twice : {X Y Z : Type 0} (f : Y → Z) (g : X → Y) (xs : List X) → map f (map g xs) ≡ map (λ x. f (g x)) xs
map_twice f g [] = refl
map_twice f g (x ∷ xs) = ap (λ ys. f (g x) ∷ ys) (map_twice f g xs)

module _ (f : At → Option At) (size : Size) where
  -- what a loop over all indices leaves
  pub over_indices : map f (places size) ≡ map (λ i. f (place_of size i)) (range_with_len 0 (cell_count size))
  over_indices = map_twice f (place_of size) (range_with_len 0 (cell_count size))

  abbrev pub over : SourceMap
  over = record { size = size; sources = map f (places size) }

  entry : (i : ℕ) → i < cell_count size → get_or (map f (places size)) i None ≡ f (place_of size i)
  entry i lt = get_or_from_slice_get (map f (places size)) i (f (place_of size i)) None (entry_over f size i lt)

  pub over_inside : (p : At) → IsInside size p → map_at over p ≡ f p
  over_inside p inside =
      let at = place_inside size p inside in
      ap (source_at (map f (places size))) at.1.index ∙ entry at.0 at.1.below ∙ ap f at.1.place

  -- a place that has a source is inside, and the source is what the place gets
  pub filled_inside : (p from : At) → map_at over p ≡ Some from → IsInside size p
  filled_inside p from e = by (index_in size p) refl
    where
      none_or_some : None ≡ Some from → ⊥
      none_or_some same = cc

      by : (o : Option ℕ) → index_in size p ≡ o → IsInside size p
      by None out = absurd (none_or_some (sym (ap (source_at (map f (places size))) out) ∙ e))
      by (Some i) at = subst IsSome (sym at) refl

  pub over_source : (p from : At) → map_at over p ≡ Some from → f p ≡ Some from
  over_source p from e = sym (over_inside p (filled_inside p from e)) ∙ e

  -- each entry of such a map is a source
  pub entry_is_source : IsMap over → (i : ℕ) → i < cell_count size → IfSome (f (place_of size i)) IsSource
  entry_is_source is i lt = subst (λ source. IfSome source IsSource) (entry i lt) (is.sources i None (omega (arith, is.count, lt)))

  pub over_is_map : IsSmall size → ((p : At) → IsInside size p → IfSome (f p) IsSource) → IsMap over
  over_is_map small each = record {
    small = small;
    count = count_over f size;
    sources = All-from_get_or (λ source. IfSome source IsSource) (map f (places size)) None (λ i lt.
        let below : i < cell_count size = subst (λ n. i < n) (count_over f size) lt in
        let inside : IsInside size (place_of size i) = subst IsSome (sym (place_at size i small.axes.w.0 small.axes.h.0 below)) refl in
        subst (λ source. IfSome source IsSource) (sym (entry i below)) (each (place_of size i) inside));
  }

-- a source of a map may be in one
pub source_is : (m : SourceMap) → IsMap m → (p : At) → IfSome (map_at m p) IsSource
source_is m is p = by (index_in m.size p) refl
  where
    by : (o : Option ℕ) → index_in m.size p ≡ o → IfSome (map_at m p) IsSource
    by None out = subst (λ o. IfSome (source_at m.sources o) IsSource) (sym out) tt
    by (Some i) at = subst (λ o. IfSome (source_at m.sources o) IsSource) (sym at) (is.sources i None (omega (arith, is.count, index_below m.size p i at)))
