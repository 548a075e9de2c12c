-- The canvas that is made of a map over a sample: its bytes are those of the map's cells, and it stands over the sample.
use Rattle.std.proofs.Common.{◌≡◌, ℕ, ◌+◌, ◌*◌, ◌<◌, List, [], ◌∷◌, ◌++◌, length, get_or, map, take, refl, ap, sym, ◌∙◌, subst, arith, add-one, length-append}
use Rattle.std.proofs.Math.Seq.{take-suc}
use Rattle.std.proofs.lemmas.List.{append-nil, get_or-map, length-map, length-replicate, map-append}
use Rattle.std.proofs.lemmas.List.Folds.{concat-append}
use Rattle.std.proofs.lemmas.List.Elements.{All-head, All-map, All-from_get_or, All-replicate, All-tail}
use Rattle.std.specs.Prelude.{All, Option, Some, None, IsSome, IfSome, is_some, replicate, unwrap_or}
use Rattle.std.specs.List.{concat}
use mathlib.Core.Bool.{false≢true}
use mir.Val.{bool_byte}
use Rattle.cells.specs.declared.place.At.{At}
use Rattle.cells.specs.declared.place.Size.{Size}
use Rattle.cells.specs.Places.{cell_count, index_in, place_of}
use Rattle.cells.specs.Cells.{Cells, HasCell, IsCell, IsVolume, cell_at, cells_of, volume_of}
use Rattle.cells.proofs.CellLaws.{IfCell, cell_is, cell_is_cell}
use Rattle.cells.proofs.PartLaws.{one_part}
use Rattle.cells.proofs.Raster.{has_index, index_below}
use Rattle.cells.proofs.Rows.{cells_of-concat}
use Rattle.map_canvas.specs.Maps.{IsMap, IsOver, SourceMap, map_at, source_at}
use Rattle.map_canvas.specs.Canvases.{IsCanvas, StandsOver, filled_marks, mark_of}
use Rattle.map_canvas.specs.Shown.{HaveCells, shown_cell}
use Rattle.map_canvas.proofs.AfterLaws.{source_of_place}

-- how many bytes cells of k samples have
length-bytes : (k : ℕ) (cells : List (List ℕ)) → All (IsCell k) cells → length (concat cells) ≡ k * length cells
length-bytes k [] all = omega arith
length-bytes k (cell ∷ cells) all =
    omega (arith, length-append cell (concat cells), (All-head (IsCell k) cell cells all).samples, length-bytes k cells (All-tail (IsCell k) cell cells all))

-- the marks of one cell
pub mark_is : (k : ℕ) (source : Option At) → replicate k (bool_byte (is_some source)) ≡ mark_of k source
mark_is k None = refl
mark_is k (Some from) = refl

-- the bytes of one more cell after those of the cells before it
pub bytes_more : (f : Option At → List ℕ) (sources : List (Option At)) (i : ℕ) (d : Option At) (items more : List ℕ) → i < length sources → items ≡ concat (map f (take i sources)) → more ≡ items ++ f (get_or sources i d)
    → more ≡ concat (map f (take (i + 1) sources))
bytes_more f sources i d items more lt so_far added = added ∙ ap (λ its. its ++ f (get_or sources i d)) so_far ∙ sym whole
  where
    whole : concat (map f (take (i + 1) sources)) ≡ concat (map f (take i sources)) ++ f (get_or sources i d)
    whole =
        ap (λ n. concat (map f (take n sources))) (add-one i)
        ∙ ap (λ its. concat (map f its)) (take-suc sources i d lt)
        ∙ ap concat (map-append f (take i sources) (get_or sources i d ∷ []))
        ∙ concat-append (map f (take i sources)) (f (get_or sources i d) ∷ [])
        ∙ ap (λ last. concat (map f (take i sources)) ++ last) (append-nil (f (get_or sources i d)))

-- the same byte k times is a cell
same_bytes : (k byte : ℕ) → byte < 256 → IsCell k (replicate k byte)
same_bytes k byte small = record { samples = length-replicate k byte; bytes = All-replicate (λ b. b < 256) k byte small }

mark_is_cell : (k : ℕ) (source : Option At) → IsCell k (mark_of k source)
mark_is_cell k None = same_bytes k 0 (omega arith)
mark_is_cell k (Some from) = same_bytes k 1 (omega arith)

-- the volume of the bytes of cells, one for each cell of a size
module _ (size : Size) (k : ℕ) (cells : List (List ℕ)) (each : All (IsCell k) cells) (count : length cells ≡ cell_count size) where
  pub bytes_count : length (concat cells) ≡ k * cell_count size
  bytes_count = length-bytes k cells each ∙ ap (λ n. k * n) count

  abbrev pub volume_with : List (List ℕ) → Cells
  volume_with its = record { size = size; more = []; k = k; cells = its }

  pub volume_of_cells : volume_of size k (concat cells) ≡ volume_with cells
  volume_of_cells = ap (λ n. volume_with (cells_of k n (concat cells))) (sym count) ∙ ap volume_with (cells_of-concat k cells each)

-- the marks of a map
module _ (m : SourceMap) (is : IsMap m) (k : ℕ) where
  abbrev marks : List (List ℕ)
  marks = map (mark_of k) m.sources

  each_mark : All (IsCell k) marks
  each_mark = All-map (IsCell k) (mark_of k) m.sources (All-from_get_or (λ source. IsCell k (mark_of k source)) m.sources None (λ i lt. mark_is_cell k (get_or m.sources i None)))

  marks_count : length marks ≡ cell_count m.size
  marks_count = length-map m.sources (mark_of k) ∙ is.count

  pub mark_bytes_count : length (concat marks) ≡ k * cell_count m.size
  mark_bytes_count = bytes_count m.size k marks each_mark marks_count

  pub marks_of_bytes : volume_of m.size k (concat marks) ≡ filled_marks m k
  marks_of_bytes = volume_of_cells m.size k marks each_mark marks_count

-- its picture over a sample
module _ (m : SourceMap) (sample : Cells) (is : IsMap m) (volume : IsVolume sample) (over : IsOver m sample) where
  pub have_cells : HaveCells sample m.sources
  have_cells i lt = subst (λ source. IfSome source (HasCell sample)) (source_of_place m is i lt) (by (map_at m (place_of m.size i)) refl)
    where
      by : (o : Option At) → map_at m (place_of m.size i) ≡ o → IfSome o (HasCell sample)
      by None e = tt
      by (Some from) e = over (place_of m.size i) from e

  shown_is_cell : (source : Option At) → IfSome source (HasCell sample) → IsCell sample.k (shown_cell sample source)
  shown_is_cell None has = same_bytes sample.k 0 (omega arith)
  shown_is_cell (Some from) has = by (cell_at sample from) has (cell_is_cell sample volume from)
    where
      by : (o : Option (List ℕ)) → IsSome o → IfCell sample.k o → IsCell sample.k (unwrap_or o [])
      by None some cell = absurd (false≢true some)
      by (Some bytes) some cell = cell

  abbrev shown : List (List ℕ)
  shown = map (shown_cell sample) m.sources

  each_shown : All (IsCell sample.k) shown
  each_shown =
      All-map (IsCell sample.k) (shown_cell sample) m.sources
      (All-from_get_or (λ source. IsCell sample.k (shown_cell sample source)) m.sources None (λ i lt. shown_is_cell (get_or m.sources i None) (have_cells i lt)))

  shown_count : length shown ≡ cell_count m.size
  shown_count = length-map m.sources (shown_cell sample) ∙ is.count

  pub shown_bytes_count : length (concat shown) ≡ sample.k * cell_count m.size
  shown_bytes_count = bytes_count m.size sample.k shown each_shown shown_count

  abbrev pub picture : Cells
  picture = record { size = m.size; more = []; k = sample.k; cells = shown }

  pub picture_of_bytes : volume_of m.size sample.k (concat shown) ≡ picture
  picture_of_bytes = volume_of_cells m.size sample.k shown each_shown shown_count

  pub map_is_canvas : IsCanvas (record { map = m; picture = picture })
  map_is_canvas = record {
    map = is;
    picture = record { small = is.small; parts = one_part m.size is.small; samples = volume.samples; count = shown_count; cells = each_shown };
    size = refl;
    part = refl;
  }

  shows : (p from : At) → map_at m p ≡ Some from → cell_at picture p ≡ cell_at sample from
  shows p from e = by (index_in m.size p) refl
    where
      none_or_some : None ≡ Some from → ⊥
      none_or_some same = cc

      by : (o : Option ℕ) → index_in m.size p ≡ o → cell_at picture p ≡ cell_at sample from
      by None out = absurd (none_or_some (sym (ap (source_at m.sources) out) ∙ e))
      by (Some i) at =
          let below : i < length m.sources = omega (arith, is.count, index_below m.size p i at) in
          let source : get_or m.sources i None ≡ Some from = sym (ap (source_at m.sources) at) ∙ e in
          cell_is picture map_is_canvas.picture p i at
          ∙ ap Some (get_or-map (shown_cell sample) m.sources i None [] below ∙ ap (shown_cell sample) source)
          ∙ sym (has_index (cell_at sample from) [] (over p from e))

  pub map_stands : StandsOver (record { map = m; picture = picture }) sample
  map_stands = record { samples = refl; over = over; bytes = shows }
