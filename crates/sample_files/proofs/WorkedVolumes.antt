-- The worked samples are a volume.
use Rattle.std.proofs.Common.{◌≡◌, ◌≤◌, ℕ, zero, suc, ◌*◌, ◌<◌, Bool, true, false, List, [], ◌∷◌, length, map, refl, sym, ap, ◌∙◌, subst, arith}
use Rattle.std.proofs.lemmas.List.{length-append}
use Rattle.std.proofs.lemmas.List.Elements.{All-append, All-from_get_or, All-nil}
use Rattle.std.proofs.lemmas.Option.{get_or_from_slice_get}
use Rattle.std.specs.Prelude.{All, Some, IsSome, slice_get}
use Rattle.std.specs.List.{AllByRecursion, flat_map}
use Rattle.limits.specs.declared.bounds.TheConstants.{MOST_CELLS, MOST_PARTS}
use Rattle.cells.specs.declared.place.At.{At}
use Rattle.cells.specs.declared.place.Size.{Size}
use Rattle.cells.specs.Places.{IsInside, cell_count, place_of, places}
use Rattle.cells.specs.Cells.{Cells, HasCell, IsCell, IsVolume, cell_at, count_of, sizes_of}
use Rattle.cells.specs.PartLists.{parts_of}
use Rattle.cells.specs.SizeLists.{AreSizes}
use Rattle.cells.proofs.CellLaws.{IfCell, cell_is_cell, inside_has_cell}
use Rattle.cells.proofs.PartLists.{is_part}
use Rattle.cells.proofs.PlaceLists.{count_over, entry_over}
use Rattle.cells.proofs.Raster.{has_index, place_at}
use Rattle.turned.specs.Turns.{turn_from, turn_size}
use Rattle.turned.specs.TurnedParts.{cells_of_parts, turned, turned_cell, turned_of, turned_parts, turned_sizes_of, turns_of}
use Rattle.turned.proofs.Turns.{turn_inside}
use Rattle.turned.proofs.TurnedCells.{part_sizes, samples_from, sizes_of_parts, sizes_of_turned, sizes_turned}
use Rattle.turned.proofs.TurnedLists.{turned_are}
use Rattle.sample_files.specs.Several.{with_turns}
use Rattle.sample_files.specs.Worked.{worked}
use Rattle.sample_files.proofs.WorkedLaws.{count_is, sizes_count, worked_count}

-- What holds of each place holds of all.

some_across : (w n i : ℕ) → i < w * n → 1 ≤ w
some_across zero n i lt = absurd (omega (arith, lt))
some_across (suc w) n i lt = omega arith

some_down : (w h f i : ℕ) → i < w * (h * f) → 1 ≤ h
some_down w zero f i lt = absurd (omega (arith, lt))
some_down w (suc h) f i lt = omega arith

all_of_places : (size : Size) (f : At → List ℕ) (P : List ℕ → Type 0) → ((p : At) → IsInside size p → P (f p)) → All P (map f (places size))
all_of_places size f P each =
    All-from_get_or P (map f (places size)) [] (λ i lt.
    let below : i < cell_count size = subst (λ n. i < n) (count_over f size) lt in
    let inside : IsInside size (place_of size i) = subst IsSome (sym (place_at size i (some_across size.w (size.h * size.f) i below) (some_down size.w size.h size.f i below) below)) refl in
    subst P (sym (get_or_from_slice_get (map f (places size)) i (f (place_of size i)) [] (entry_over f size i below))) (each (place_of size i) inside))

-- The cells of turned parts.

-- a volume with cells of so many samples
record HasCellsOf (k : ℕ) (part : Cells) : Type 0 where
  volume : IsVolume part
  samples : part.k ≡ k

-- as many cells as its size has, of so many samples
record IsFilled (k : ℕ) (part : Cells) : Type 0 where
  count : length part.cells ≡ cell_count part.size
  cells : All (IsCell k) part.cells

turned_filled : (k t : ℕ) (part : Cells) → HasCellsOf k part → IsFilled k (turned t part)
unfolding turned
turned_filled k t part has = record {
  count = count_over (turned_cell t part) (turn_size t part.size);
  cells = all_of_places (turn_size t part.size) (turned_cell t part) (IsCell k) (λ p inside.
      let from : At = turn_from t part.size p in
      let there : HasCell part from = inside_has_cell part has.volume from (turn_inside t part.size p inside) in
      subst (λ n. IsCell n (turned_cell t part p)) has.samples (subst (IfCell part.k) (has_index (cell_at part from) [] there) (cell_is_cell part has.volume from)));
}

parts_filled : (k : ℕ) (parts : List Cells) → AllByRecursion (HasCellsOf k) parts → AllByRecursion (IsFilled k) (flat_map turns_of parts)
parts_filled k [] all = tt
parts_filled k (part ∷ parts) all =
    let at : (t : ℕ) → IsFilled k (turned t part) = λ t. turned_filled k t part all.0 in
    (at 0, (at 1, (at 2, (at 3, (at 4, (at 5, (at 6, (at 7, parts_filled k parts all.1))))))))

filled_count : (k : ℕ) (parts : List Cells) → AllByRecursion (IsFilled k) parts → length (cells_of_parts parts) ≡ sizes_count (part_sizes parts)
unfolding sizes_count
filled_count k [] all = refl
filled_count k (part ∷ parts) all = omega (arith, length-append part.cells (cells_of_parts parts), all.0.count, filled_count k parts all.1)

filled_cells : (k : ℕ) (parts : List Cells) → AllByRecursion (IsFilled k) parts → All (IsCell k) (cells_of_parts parts)
filled_cells k [] all = All-nil (IsCell k)
filled_cells k (part ∷ parts) all = All-append (IsCell k) part.cells (cells_of_parts parts) all.0.cells (filled_cells k parts all.1)

-- the parts of a volume
each_part : (v : Cells) → IsVolume v → AllByRecursion (HasCellsOf v.k) (parts_of v)
each_part v volume = by (parts_of v) (λ n part is. (is_part v (suc n) part volume is).volume) (samples_from v.k v.size v.more v.cells)
  where
    by : (parts : List Cells) → ((n : ℕ) (part : Cells) → slice_get parts n ≡ Some part → IsVolume part) → AllByRecursion (λ (part : Cells). part.k ≡ v.k) parts → AllByRecursion (HasCellsOf v.k) parts
    by [] volumes samples = tt
    by (part ∷ parts) volumes samples = (record { volume = volumes 0 part refl; samples = samples.0 }, by parts (λ n its is. volumes (suc n) its is) samples.1)

-- The turned volume.

module _ (v : Cells) (volume : IsVolume v) (few : 8 * length (sizes_of v) ≤ MOST_PARTS) (fits : 8 * count_of v ≤ MOST_CELLS) where
  filled : AllByRecursion (IsFilled v.k) (turned_parts v)
  filled = parts_filled v.k (parts_of v) (each_part v volume)

  are : AreSizes (turned_sizes_of (sizes_of v))
  are = turned_are (sizes_of v) (record { some = omega arith; few = omega (arith, volume.parts.few); axes = (volume.parts.first, volume.parts.others) }) (omega (arith, few))

  sizes : part_sizes (turned_parts v) ≡ sizes_of (turned_of v)
  sizes = sizes_of_turned (parts_of v) ∙ ap turned_sizes_of (sizes_of_parts v) ∙ sym (sizes_turned v)

  count : length (cells_of_parts (turned_parts v)) ≡ count_of (turned_of v)
  count = filled_count v.k (turned_parts v) filled ∙ ap sizes_count sizes ∙ sym (count_is (turned_of v).size (turned_of v).more)

  are_turned : AreSizes (sizes_of (turned_of v))
  are_turned = subst AreSizes (sym (sizes_turned v)) are

  turned_volume : IsVolume (turned_of v)
  unfolding turned_of
  turned_volume = record {
    small = volume.small;
    parts = record {
      few = omega (arith, are_turned.few);
      first = volume.parts.first;
      others = are_turned.axes.1;
      cells = subst (λ n. n ≤ MOST_CELLS) (sym (worked_count true v)) fits;
    };
    samples = volume.samples;
    count = count;
    cells = filled_cells v.k (turned_parts v) filled;
  }

pub worked_volume : (turns : Bool) (v : Cells) → IsVolume v → with_turns turns (length (sizes_of v)) ≤ MOST_PARTS → with_turns turns (count_of v) ≤ MOST_CELLS → IsVolume (worked turns v)
worked_volume false v volume few fits = volume
worked_volume true v volume few fits = turned_volume v volume few fits
