-- Lists over the places of a size, by index.
use Rattle.std.proofs.Common.{◌≡◌, ℕ, ◌+◌, ◌<◌, length, map, ap, ◌∙◌, arith}
use Rattle.std.proofs.lemmas.List.{length-map}
use Rattle.std.proofs.lemmas.List.FromFn.{length-map-range_with_len, length-range_with_len, get_or-range_with_len}
use Rattle.std.proofs.lemmas.Option.{slice_get-map, slice_get-get_or}
use Rattle.std.specs.Prelude.{Some, option_map, slice_get}
use Rattle.std.specs.List.{range_with_len}
use Rattle.cells.specs.declared.place.At.{At}
use Rattle.cells.specs.declared.place.Size.{Size}
use Rattle.cells.specs.Places.{cell_count, place_of, places}

-- as many entries as the size has places
pub count_over : {X : Type 0} (f : At → X) (size : Size) → length (map f (places size)) ≡ cell_count size
count_over f size = length-map (places size) f ∙ length-map-range_with_len (place_of size) 0 (cell_count size)

number_at : (n i : ℕ) → i < n → slice_get (range_with_len 0 n) i ≡ Some i
number_at n i lt =
    let same : 0 + i ≡ i = omega arith in
    slice_get-get_or (range_with_len 0 n) i 0 (omega (arith, length-range_with_len 0 n)) ∙ ap Some (get_or-range_with_len 0 n i 0 lt ∙ same)

-- the entry at an index comes from the place at that index
pub entry_over : {X : Type 0} (f : At → X) (size : Size) (i : ℕ) → i < cell_count size → slice_get (map f (places size)) i ≡ Some (f (place_of size i))
entry_over f size i lt =
    slice_get-map f (places size) i
    ∙ ap (option_map f) (slice_get-map (place_of size) (range_with_len 0 (cell_count size)) i ∙ ap (option_map (place_of size)) (number_at (cell_count size) i lt))
