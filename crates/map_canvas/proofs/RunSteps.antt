-- A run of new cells is put in as if cell by cell.
use Rattle.std.proofs.Common.{◌≡◌, ℕ, zero, suc, ◌+◌, ◌%◌, ◌<◌, ◌≤◌, List, [], length, take, drop, get_or, ap, sym, ◌∙◌, subst, arith, Bool}
use Rattle.std.proofs.Math.Seq.{paste}
use Rattle.std.proofs.lemmas.List.{get_or-drop, get_or-take, length-drop, length-take-le}
use Rattle.std.proofs.lemmas.List.Edits.{paste_more, paste_none}
use Rattle.std.specs.Prelude.{Option, Some, None, unwrap_or}
use Rattle.cells.specs.declared.place.At.{At}
use Rattle.cells.specs.Places.{IsInside, cell_count, index_in}
use Rattle.cells.specs.Parts.{count_from, index_from}
use Rattle.cells.specs.Cells.{Cells, HasRun, IsVolume, cells_of, index_of, put_row, put_run, row_at, set_nth}
use Rattle.cells.proofs.Raster.{index_below, place_at}
use Rattle.cells.proofs.PartBoxes.{run_cells, run_index, run_of_volume}
use Rattle.cells.proofs.CellLaws.{cell_by_index}
use Rattle.cells.proofs.Rows.{paste-whole}
use Rattle.map_canvas.specs.declared.canvas.Placement.{Placement}
use Rattle.map_canvas.specs.Maps.{SourceMap, sample_cell}
use Rattle.map_canvas.specs.Runs.{AreNew, source_run, with_run}
use Rattle.map_canvas.specs.Canvases.{CanvasState, IsCanvas, StandsOver}
use Rattle.map_canvas.specs.Choices.{Fits, IsAfter, box_cell, box_count, box_source}
use Rattle.map_canvas.proofs.ChoiceLaws.{after_new}
use Rattle.map_canvas.proofs.Filling.{filled, filled_is, filled_stands, fits_cell, fits_source}
use Rattle.map_canvas.proofs.Runs.{box_cell-along, box_source-along, length-source_run, run_below_count, run_in_sample, run_of_sample, source_run-at}

-- what holds of a canvas when the choice is put in up to an index
pub record IsSoFar (m : SourceMap) (sample : Cells) (placement : Placement) (choice : List Bool) (i : ℕ) (canvas : CanvasState) : Type 0 where
  pub canvas_is : IsCanvas canvas
  pub stands : StandsOver canvas sample
  pub after : IsAfter m placement (take i choice) canvas.map

module _ (m : SourceMap) (canvas : CanvasState) (sample : Cells) (placement : Placement) (choice : List Bool) (i n o s : ℕ) (so_far : IsSoFar m sample placement choice i canvas) (volume : IsVolume sample)
    (fits : Fits canvas.map.size sample placement) (below : i < box_count placement) (row : i % placement.rect.size.w + n ≤ placement.rect.size.w) (new : AreNew choice i n)
    (at : index_in canvas.map.size (box_cell placement i) ≡ Some o) (there : index_of sample (box_source placement i) ≡ Some s) where
  abbrev cells : List (List ℕ)
  cells = take n (drop s sample.cells)

  abbrev sources : List (Option At)
  sources = source_run (box_source placement i) n

  -- the canvas with the first j cells of the run put in
  abbrev put_in : ℕ → CanvasState
  put_in j = record {
    map = record { size = canvas.map.size; sources = paste canvas.map.sources o sources j };
    picture = record canvas.picture { cells = paste canvas.picture.cells o cells j };
  }

  run : HasRun sample (box_source placement i) n
  run = run_in_sample canvas.map.size sample placement fits volume i n below row

  in_sample : s + n ≤ length sample.cells
  in_sample = omega (arith, volume.count, run_of_volume sample (box_source placement i) s n there run)

  long : length cells ≡ n
  long = length-take-le n (drop s sample.cells) (omega (arith, in_sample, length-drop s sample.cells))

  in_box : (j : ℕ) → j < n → i + j < box_count placement
  in_box j lt = omega (arith, run_below_count canvas.map.size sample placement fits volume i n below row, lt)

  along : (j : ℕ) → j < n → i % placement.rect.size.w + j < placement.rect.size.w
  along j lt = omega (arith, row, lt)

  -- where a cell of the run lies in the output and in the sample
  cell_at_index : (j : ℕ) → j < n → index_in canvas.map.size (box_cell placement (i + j)) ≡ Some (o + j)
  cell_at_index j lt =
      let same = box_cell-along placement i j (along j lt) in
      ap (index_in canvas.map.size) same
      ∙ run_index canvas.map.size [] (box_cell placement i) o j at (subst (IsInside canvas.map.size) same (fits_cell canvas.map.size sample placement fits (i + j) (in_box j lt)))

  in_picture : (j : ℕ) → j < n → index_of canvas.picture (box_cell placement (i + j)) ≡ Some (o + j)
  in_picture j lt =
      ap (λ size. index_from size canvas.picture.more (box_cell placement (i + j))) so_far.canvas_is.size
      ∙ ap (λ more. index_from canvas.map.size more (box_cell placement (i + j))) so_far.canvas_is.part ∙ cell_at_index j lt

  source_index : (j : ℕ) → j < n → index_of sample (box_source placement (i + j)) ≡ Some (s + j)
  source_index j lt = ap (index_of sample) (box_source-along placement i j (along j lt)) ∙ run_cells sample (box_source placement i) s n there run j lt

  below_sources : (j : ℕ) → j < n → o + j < length canvas.map.sources
  below_sources j lt = omega (arith, so_far.canvas_is.map.count, index_below canvas.map.size (box_cell placement (i + j)) (o + j) (cell_at_index j lt))

  same_length : length canvas.picture.cells ≡ length canvas.map.sources
  same_length = so_far.canvas_is.picture.count ∙ ap (count_from canvas.picture.size) so_far.canvas_is.part ∙ ap cell_count so_far.canvas_is.size ∙ sym so_far.canvas_is.map.count

  this_source : (j : ℕ) → j < n → Some (box_source placement (i + j)) ≡ get_or sources j None
  this_source j lt = ap Some (box_source-along placement i j (along j lt)) ∙ sym (source_run-at (box_source placement i) n j None lt)

  this_cell : (j : ℕ) → j < n → sample_cell sample (Some (box_source placement (i + j))) ≡ get_or cells j []
  this_cell j lt =
      ap (λ o. unwrap_or o []) (cell_by_index sample volume (box_source placement (i + j)) (s + j) (source_index j lt))
      ∙ sym (get_or-take n (drop s sample.cells) j [] lt ∙ get_or-drop s sample.cells j [])

  one_more : (j : ℕ) → j < n → put_in (j + 1) ≡ filled (put_in j) sample (box_cell placement (i + j)) (box_source placement (i + j))
  one_more j lt = λ k. record {
    map = record { size = canvas.map.size; sources = in_map k };
    picture = record canvas.picture { cells = picture_cells k };
  }
    where
      in_map : paste canvas.map.sources o sources (j + 1) ≡ set_nth (paste canvas.map.sources o sources j) (index_in canvas.map.size (box_cell placement (i + j))) (Some (box_source placement (i + j)))
      in_map =
          sym (paste_more canvas.map.sources o sources j None (below_sources j lt) (omega (arith, lt, length-source_run (box_source placement i) n)))
          ∙ (λ k. set_nth (paste canvas.map.sources o sources j) (sym (cell_at_index j lt) k) (sym (this_source j lt) k))

      picture_cells : paste canvas.picture.cells o cells (j + 1)
          ≡ set_nth (paste canvas.picture.cells o cells j) (index_of canvas.picture (box_cell placement (i + j))) (sample_cell sample (Some (box_source placement (i + j))))
      picture_cells =
          sym (paste_more canvas.picture.cells o cells j [] (omega (arith, same_length, below_sources j lt)) (omega (arith, lt, long)))
          ∙ (λ k. set_nth (paste canvas.picture.cells o cells j) (sym (in_picture j lt) k) (sym (this_cell j lt) k))

  none_yet : canvas ≡ put_in 0
  none_yet = λ k. record {
    map = record { size = canvas.map.size; sources = paste_none canvas.map.sources o sources k };
    picture = record canvas.picture { cells = paste_none canvas.picture.cells o cells k };
  }

  -- so the canvas is right after each cell of the run
  put_so_far : (j : ℕ) → j ≤ n → IsSoFar m sample placement choice (i + j) (put_in j)
  put_so_far zero le = subst (IsSoFar m sample placement choice (i + 0)) none_yet (subst (λ k. IsSoFar m sample placement choice k canvas) (let e : i ≡ i + 0 = omega arith in e) so_far)
  put_so_far (suc j) le =
      let before : j < n = omega (arith, le) in
      let prev = put_so_far j (omega (arith, le)) in
      let q = box_cell placement (i + j) in
      let from = box_source placement (i + j) in
      let has = fits_source canvas.map.size sample placement fits volume (i + j) (in_box j before) in
      let own = place_at placement.rect.size (i + j) fits.some.w fits.some.h (in_box j before) in
      subst (λ k. IsSoFar m sample placement choice k (put_in (suc j))) (let e : (i + j) + 1 ≡ i + suc j = omega arith in e)
      (subst (λ k. IsSoFar m sample placement choice ((i + j) + 1) (put_in k)) (let e : j + 1 ≡ suc j = omega arith in e)
      (subst (IsSoFar m sample placement choice ((i + j) + 1)) (sym (one_more j before)) (record {
        canvas_is = filled_is (put_in j) sample q from (o + j) prev.canvas_is prev.stands volume (cell_at_index j before) has;
        stands = filled_stands (put_in j) sample q from (o + j) prev.canvas_is prev.stands volume (cell_at_index j before) has;
        after = after_new m (put_in j).map placement choice (i + j) own prev.after (o + j) (cell_at_index j before)
            (subst (λ k. o + j < k) (sym prev.canvas_is.map.count) (index_below canvas.map.size q (o + j) (cell_at_index j before))) (new.each j before);
      })))

  -- and after the run as it is written
  pub run_so_far : IsSoFar m sample placement choice (i + n) (record {
    map = with_run canvas.map (box_cell placement i) (box_source placement i) n;
    picture = put_row canvas.picture (box_cell placement i) (cells_of canvas.picture.k n (row_at sample (box_source placement i) n));
  })
  run_so_far = subst (IsSoFar m sample placement choice (i + n)) (λ k. record {
    map = record { size = canvas.map.size; sources = in_map k };
    picture = record canvas.picture { cells = picture_cells k };
  }) (put_so_far n (omega arith))
    where
      in_map : paste canvas.map.sources o sources n ≡ put_run canvas.map.sources (index_in canvas.map.size (box_cell placement i)) sources
      in_map =
          ap (paste canvas.map.sources o sources) (sym (length-source_run (box_source placement i) n)) ∙ paste-whole canvas.map.sources sources o
          ∙ ap (λ k. put_run canvas.map.sources k sources) (sym at)

      first_in_picture : index_of canvas.picture (box_cell placement i) ≡ Some o
      first_in_picture =
          ap (λ size. index_from size canvas.picture.more (box_cell placement i)) so_far.canvas_is.size
          ∙ ap (λ more. index_from canvas.map.size more (box_cell placement i)) so_far.canvas_is.part ∙ at

      picture_cells : paste canvas.picture.cells o cells n
          ≡ put_run canvas.picture.cells (index_of canvas.picture (box_cell placement i)) (cells_of canvas.picture.k n (row_at sample (box_source placement i) n))
      picture_cells =
          ap (paste canvas.picture.cells o cells) (sym long) ∙ paste-whole canvas.picture.cells cells o
          ∙ (λ k. put_run canvas.picture.cells (sym first_in_picture k) (sym (run_of_sample sample (box_source placement i) n s volume there in_sample) k))
          ∙ ap (λ k. put_run canvas.picture.cells (index_of canvas.picture (box_cell placement i)) (cells_of k n (row_at sample (box_source placement i) n))) (sym so_far.stands.samples)
