-- What a run of new cells does: to the map, to its marks, and to a canvas, cell by cell.
use Rattle.std.proofs.Common.{◌≡◌, ℕ, ◌+◌, ◌%◌, ◌<◌, ◌≤◌, List, [], length, take, drop, get_or, map, replicate, refl, ap, sym, ◌∙◌, subst, arith, ◌++◌}
use Rattle.std.proofs.lemmas.Int.{ints}
use Rattle.std.proofs.lemmas.List.{get_or-replicate, length-drop, length-map, length-replicate, length-take-le, take-map, drop-map, map-append}
use Rattle.std.proofs.lemmas.List.Elements.{All-drop, All-from_get_or, All-take}
use Rattle.std.proofs.lemmas.List.FromFn.{fill_by_all, get_or-map-range_with_len, length-map-range_with_len}
use Rattle.std.proofs.lemmas.Simd.{map-map}
use Rattle.std.specs.Prelude.{pos, ◌+ℤ◌, ◌≤ℤ◌, Option, Some, None, IsSome, IfSome}
use Rattle.std.specs.List.{concat, range_with_len}
use Rattle.cells.specs.declared.place.At.{At}
use Rattle.cells.specs.declared.place.Size.{Size}
use Rattle.cells.specs.Places.{IsInside, cell_count, index_in, place_of, plus, spot}
use Rattle.cells.specs.Cells.{Cells, HasRun, IsCell, IsInsideOf, IsVolume, cells_of, index_of, put_row, put_run, row_at, run_from}
use Rattle.cells.proofs.Raster.{place_at}
use Rattle.cells.proofs.Rows.{All-put_run, cells_of-concat, length-put_run}
use Rattle.cells.proofs.Steps.{place_along, plus_assoc, row_end}
use Rattle.map_canvas.specs.declared.canvas.Placement.{Placement}
use Rattle.map_canvas.specs.Maps.{IsMap, IsSource, SourceMap}
use Rattle.map_canvas.specs.Runs.{source_run, with_run}
use Rattle.map_canvas.specs.Canvases.{filled_marks, mark_of}
use Rattle.map_canvas.specs.Choices.{Fits, box_cell, box_count, box_source}
use Rattle.map_canvas.proofs.Filling.{cell_is_source, fits_source, step_inside}

pub length-source_run : (from : At) (w : ℕ) → length (source_run from w) ≡ w
length-source_run from w = length-map-range_with_len (λ j. Some (plus from (spot j 0 0))) 0 w

pub source_run-at : (from : At) (w j : ℕ) (d : Option At) → j < w → get_or (source_run from w) j d ≡ Some (plus from (spot j 0 0))
source_run-at from w j d lt = get_or-map-range_with_len (λ i. Some (plus from (spot i 0 0))) 0 w j j d lt (omega arith)

-- a map with a run of sources is a map
pub with_run_is : (m : SourceMap) (p from : At) (w o : ℕ) → IsMap m → index_in m.size p ≡ Some o → o + w ≤ cell_count m.size → ((j : ℕ) → j < w → IsSource (plus from (spot j 0 0))) → IsMap (with_run m p from w)
with_run_is m p from w o is at fits sources =
    subst (λ i. IsMap (record m { sources = put_run m.sources i (source_run from w) })) (sym at) (record {
      small = is.small;
      count = length-put_run m.sources (source_run from w) o (omega (arith, is.count, fits, length-source_run from w)) ∙ is.count;
      sources = All-put_run (λ source. IfSome source IsSource) m.sources (source_run from w) o is.sources
          (All-from_get_or (λ source. IfSome source IsSource) (source_run from w) None (λ j lt.
          let below : j < w = omega (arith, lt, length-source_run from w) in
          subst (λ source. IfSome source IsSource) (sym (source_run-at from w j None below)) (sources j below)));
    })

-- the marks of a run
marks_of_run : (k : ℕ) (from : At) (w : ℕ) → replicate w (replicate k 1) ≡ map (mark_of k) (source_run from w)
marks_of_run k from w =
    fill_by_all (λ j. replicate k 1) (replicate w (replicate k 1)) w [] (length-replicate w (replicate k 1)) (λ j lt. get_or-replicate w j (replicate k 1) [] lt)
    ∙ sym (map-map (mark_of k) (λ j. Some (plus from (spot j 0 0))) (range_with_len 0 w))

map-put_run : {X Y : Type 0} (f : X → Y) (xs ys : List X) (o : Option ℕ) → put_run (map f xs) o (map f ys) ≡ map f (put_run xs o ys)
map-put_run f xs ys None = refl
map-put_run f xs ys (Some i) =
    (λ j. take-map f i xs j ++ map f ys ++ (ap (λ n. drop (i + n) (map f xs)) (length-map ys f) ∙ drop-map f (i + length ys) xs) j)
    ∙ sym (map-append f (take i xs ++ ys) (drop (i + length ys) xs) ∙ ap (λ zs. zs ++ map f (drop (i + length ys) xs)) (map-append f (take i xs) ys))

pub marks_with_run : (m : SourceMap) (k : ℕ) (p from : At) (w : ℕ) → put_row (filled_marks m k) p (replicate w (replicate k 1)) ≡ filled_marks (with_run m p from w) k
marks_with_run m k p from w =
    let volume : List (List ℕ) → Cells = λ cells. record { size = m.size; more = []; k = k; cells = cells } in
    ap (λ marks. volume (put_run (map (mark_of k) m.sources) (index_in m.size p) marks)) (marks_of_run k from w)
    ∙ ap volume (map-put_run (mark_of k) m.sources (source_run from w) (index_in m.size p))

-- the cells of a run of a sample
pub run_of_sample : (sample : Cells) (from : At) (w s : ℕ) → IsVolume sample → index_of sample from ≡ Some s → s + w ≤ length sample.cells → cells_of sample.k w (row_at sample from w) ≡ take w (drop s sample.cells)
run_of_sample sample from w s is at fits =
    let run : List (List ℕ) = take w (drop s sample.cells) in
    let long : length run ≡ w = length-take-le w (drop s sample.cells) (omega (arith, fits, length-drop s sample.cells)) in
    ap (λ o. cells_of sample.k w (run_from sample.cells w o)) at ∙ ap (λ n. cells_of sample.k n (concat run)) (sym long)
    ∙ cells_of-concat sample.k run (All-take (IsCell sample.k) w (drop s sample.cells) (All-drop (IsCell sample.k) s sample.cells is.cells))

-- the cells of a box that follow one in its row, and their new sources
module _ (placement : Placement) (i j : ℕ) (along : i % placement.rect.size.w + j < placement.rect.size.w) where
  pub box_cell-along : box_cell placement (i + j) ≡ plus (box_cell placement i) (spot j 0 0)
  box_cell-along = ap (plus placement.rect.corner) (place_along placement.rect.size i j along) ∙ plus_assoc placement.rect.corner (place_of placement.rect.size i) (spot j 0 0)

  pub box_source-along : box_source placement (i + j) ≡ plus (box_source placement i) (spot j 0 0)
  box_source-along = ap (plus placement.from) (place_along placement.rect.size i j along) ∙ plus_assoc placement.from (place_of placement.rect.size i) (spot j 0 0)

-- what a run of a box that fits gives
module _ (output : Size) (sample : Cells) (placement : Placement) (fits : Fits output sample placement) (is : IsVolume sample) (i n : ℕ) (below : i < box_count placement) (row : i % placement.rect.size.w + n ≤ placement.rect.size.w) where
  pub run_below_count : i + n ≤ box_count placement
  run_below_count = row_end placement.rect.size i n fits.some.w below row

  step_in : (k : ℕ) → k < box_count placement → IsInside placement.rect.size (place_of placement.rect.size k)
  step_in k lt = subst IsSome (sym (place_at placement.rect.size k fits.some.w fits.some.h lt)) refl

  pub run_in_sample : HasRun sample (box_source placement i) n
  run_in_sample = record {
    first = step_inside output sample placement fits (place_of placement.rect.size i) (step_in i below);
    each = λ j lt.
        subst (IsInsideOf sample) (box_source-along placement i j (omega (arith, row, lt)))
        (step_inside output sample placement fits (place_of placement.rect.size (i + j)) (step_in (i + j) (omega (arith, run_below_count, lt))));
  }

  pub run_is_source : (j : ℕ) → j < n → IsSource (plus (box_source placement i) (spot j 0 0))
  run_is_source j lt =
      subst IsSource (box_source-along placement i j (omega (arith, row, lt)))
      (cell_is_source sample is (box_source placement (i + j)) (fits_source output sample placement fits is (i + j) (omega (arith, run_below_count, lt))))

  -- it ends within its row of the output
  pub run_room : ((box_cell placement i).x +ℤ pos n) ≤ℤ pos output.w
  run_room = omega (arith, ints, fits.inside.x.to, row)
