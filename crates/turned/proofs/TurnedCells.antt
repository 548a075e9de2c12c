-- The cells of a turned part, and the parts of the turned volume.
use Rattle.std.proofs.Common.{◌≡◌, ℕ, zero, suc, ◌<◌, List, [], ◌∷◌, ◌++◌, length, map, drop, refl, ap, sym, ◌∙◌, arith}
use Rattle.std.proofs.lemmas.List.{append-nil, take_at, drop_at}
use Rattle.std.specs.Prelude.{Some, option_and_then, slice_get, unwrap_or}
use Rattle.std.specs.List.{AllByRecursion, flat_map}
use Rattle.cells.specs.declared.place.At.{At}
use Rattle.cells.specs.declared.place.Size.{Size}
use Rattle.cells.specs.Places.{IsInside, cell_count, index_in, place_of, places}
use Rattle.cells.specs.Cells.{Cells, HasCell, cell_at, sizes_of}
use Rattle.cells.specs.PartLists.{one_part_of, parts_from, parts_of}
use Rattle.cells.proofs.Raster.{IsAt, has_index, index_below, index_parts, one_place, place_at}
use Rattle.cells.proofs.PlaceLists.{count_over, entry_over}
use Rattle.turned.specs.Turns.{turn_from, turn_size}
use Rattle.turned.specs.TurnedParts.{cells_of_parts, turn_sizes, turned, turned_cell, turned_of, turned_parts, turned_sizes_of, turns_of}

-- each place of a turned part has the cell that the turn moves there
pub turned_at : (t : ℕ) (part : Cells) (p : At) → IsInside (turn_size t part.size) p → HasCell part (turn_from t part.size p) → cell_at (turned t part) p ≡ cell_at part (turn_from t part.size p)
unfolding turned
turned_at t part p inside has =
    ap (option_and_then (slice_get (map (turned_cell t part) (places size)))) at
    ∙ entry_over (turned_cell t part) size i below
    ∙ ap (λ q. Some (turned_cell t part q)) (one_place size (place_of size i) p i (place_at size i (omega (arith, counts.x_on.below)) (omega (arith, counts.y_on.below)) below) at)
    ∙ sym (has_index (cell_at part (turn_from t part.size p)) [] has)
  where
    size : Size
    size = turn_size t part.size

    i : ℕ
    i = unwrap_or (index_in size p) 0

    at : index_in size p ≡ Some i
    at = has_index (index_in size p) 0 inside

    below : i < cell_count size
    below = index_below size p i at

    counts : IsAt size p i
    counts = index_parts size p i at

-- a part by itself, with as many cells as its size has
pub record IsWhole (k : ℕ) (part : Cells) : Type 0 where
  pub is : part ≡ one_part_of part.size k part.cells
  pub count : length part.cells ≡ cell_count part.size

abbrev pub part_sizes : List Cells → List Size
part_sizes parts = map (λ part. part.size) parts

-- parts put one after another are the parts of the volume
parts_again : (k : ℕ) (first : Cells) (rest : List Cells) → AllByRecursion (IsWhole k) (first ∷ rest) → parts_from k first.size (part_sizes rest) (cells_of_parts (first ∷ rest)) ≡ first ∷ rest
parts_again k first [] all =
    (λ j. one_part_of first.size k (append-nil first.cells j) ∷ []) ∙ ap (λ part. part ∷ []) (sym all.0.is)
parts_again k first (next ∷ rest) all =
    (λ j.
    one_part_of first.size k (take_at first.cells (cells_of_parts (next ∷ rest)) (cell_count first.size) all.0.count j)
    ∷ parts_from k next.size (part_sizes rest) (drop_at first.cells (cells_of_parts (next ∷ rest)) (cell_count first.size) all.0.count j))
    ∙ ap (λ part. part ∷ parts_from k next.size (part_sizes rest) (cells_of_parts (next ∷ rest))) (sym all.0.is)
    ∙ ap (λ parts. first ∷ parts) (parts_again k next rest all.1)

parts_of_list : (k : ℕ) (parts : List Cells) (size : Size) (more : List Size) → part_sizes parts ≡ size ∷ more → AllByRecursion (IsWhole k) parts → parts_from k size more (cells_of_parts parts) ≡ parts
parts_of_list k [] size more e all = cc
parts_of_list k (first ∷ rest) size more e all =
    let s : size ≡ first.size = cc in
    let m : more ≡ part_sizes rest = cc in
    (λ j. parts_from k (s j) (m j) (cells_of_parts (first ∷ rest))) ∙ parts_again k first rest all

-- the sizes and the samples of the parts of a volume
sizes_of_parts_from : (k : ℕ) (size : Size) (more : List Size) (cells : List (List ℕ)) → part_sizes (parts_from k size more cells) ≡ size ∷ more
sizes_of_parts_from k size [] cells = refl
sizes_of_parts_from k size (next ∷ more) cells = ap (λ sizes. size ∷ sizes) (sizes_of_parts_from k next more (drop (cell_count size) cells))

pub sizes_of_parts : (v : Cells) → part_sizes (parts_of v) ≡ sizes_of v
sizes_of_parts v = sizes_of_parts_from v.k v.size v.more v.cells

pub samples_from : (k : ℕ) (size : Size) (more : List Size) (cells : List (List ℕ)) → AllByRecursion (λ (part : Cells). part.k ≡ k) (parts_from k size more cells)
samples_from k size [] cells = (refl, tt)
samples_from k size (next ∷ more) cells = (refl, samples_from k next more (drop (cell_count size) cells))

-- the sizes of turned parts
pub sizes_of_turned : (parts : List Cells) → part_sizes (flat_map turns_of parts) ≡ turned_sizes_of (part_sizes parts)
unfolding turned
sizes_of_turned [] = refl
sizes_of_turned (part ∷ parts) = ap (λ sizes. turn_sizes part.size ++ sizes) (sizes_of_turned parts)

turned_whole : (k t : ℕ) (part : Cells) → part.k ≡ k → IsWhole k (turned t part)
unfolding turned
turned_whole k t part e = record {
  is = ap (λ n. one_part_of (turn_size t part.size) n (map (turned_cell t part) (places (turn_size t part.size)))) e;
  count = count_over (turned_cell t part) (turn_size t part.size);
}

turns_whole : (k : ℕ) (parts : List Cells) → AllByRecursion (λ (part : Cells). part.k ≡ k) parts → AllByRecursion (IsWhole k) (flat_map turns_of parts)
turns_whole k [] all = tt
turns_whole k (part ∷ parts) all =
    let at : (t : ℕ) → IsWhole k (turned t part) = λ t. turned_whole k t part all.0 in
    (at 0, (at 1, (at 2, (at 3, (at 4, (at 5, (at 6, (at 7, turns_whole k parts all.1))))))))

pub sizes_turned : (v : Cells) → sizes_of (turned_of v) ≡ turned_sizes_of (sizes_of v)
unfolding turned_of
sizes_turned v = refl

pub parts_turned : (v : Cells) → parts_of (turned_of v) ≡ turned_parts v
unfolding turned_of
parts_turned v =
    parts_of_list v.k (turned_parts v) v.size (drop 1 (turned_sizes_of (sizes_of v)))
    (sizes_of_turned (parts_of v) ∙ ap turned_sizes_of (sizes_of_parts v)) (turns_whole v.k (parts_of v) (samples_from v.k v.size v.more v.cells))

pub samples_at : (k : ℕ) (parts : List Cells) → AllByRecursion (λ (part : Cells). part.k ≡ k) parts → (n : ℕ) (part : Cells) → slice_get parts n ≡ Some part → part.k ≡ k
samples_at k [] all n part e = cc
samples_at k (first ∷ parts) all zero part e = let same : first ≡ part = cc in ap (λ (p : Cells). p.k) (sym same) ∙ all.0
samples_at k (first ∷ parts) all (suc n) part e = samples_at k parts all.1 n part e
