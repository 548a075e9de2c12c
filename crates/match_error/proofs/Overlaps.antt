-- A row of the box in the picture, the sample and the marks: what the masked sum over the three is.
use Rattle.std.proofs.Common.{◌≡◌, ℕ, ◌+◌, ◌*◌, ◌<◌, ◌≤◌, List, [], length, get_or, refl, ap, sym, ◌∙◌, subst, arith}
use Rattle.std.proofs.lemmas.List.{get_or-map, length-map, length-replicate}
use Rattle.std.proofs.Math.Nat.{mul-le-mul}
use Rattle.std.proofs.lemmas.Int.{ints}
use Rattle.cells.specs.declared.place.Box3.{Box3}
use Rattle.cells.specs.Boxes.{HoldsBox, cell_in}
use Rattle.std.specs.Prelude.{Option, Some, None, IsSome, unwrap_or}
use Rattle.limits.specs.declared.bounds.TheConstants.{GREATEST_AXIS}
use Rattle.cells.specs.declared.place.At.{At}
use Rattle.cells.specs.Cells.{Cells, IsVolume, cell_at, row_at, run_from}
use Rattle.cells.specs.Places.{cell_count, index_in, plus, spot}
use Rattle.cells.proofs.BoxLaws.{plus_minus}
use Rattle.cells.specs.Parts.{count_from}
use Rattle.cells.proofs.PartLaws.{index_front}
use Rattle.cells.proofs.Raster.{has_index}
use Rattle.cells.proofs.CellLaws.{cell_is, cell_by_index}
use Rattle.boxes.proofs.Additions.{counts}
use Rattle.boxes.proofs.Axes.{sum_equal}
use Rattle.lane_kernels.specs.Sums.{masked_sum_of_squared_differences, sum_of_squared_differences}
use Rattle.map_canvas.specs.declared.canvas.Placement.{Placement}
use Rattle.map_canvas.specs.Maps.{SourceMap, IsFilled, map_at, source_at}
use Rattle.map_canvas.specs.Canvases.{CanvasState, IsCanvas, StandsOver, mark_of, filled_marks}
use Rattle.map_canvas.specs.Choices.{Fits, new_source}
use Rattle.map_canvas.specs.CellErrors.{cell_error, spot_error}
use Rattle.match_error.specs.Errors.{row_error}
use Rattle.boxes.specs.Sums.{sum_to}
use Rattle.match_error.proofs.RowPlaces.{IsRow, IsVolumeRow, row_in_volume, have_samples, row_is_run, row_of}
use Rattle.match_error.proofs.Runs.{HaveSamples, masked_by_ones, masked_by_zeros, masked_cells, plain_cells}

length-mark : (k : ℕ) (source : Option At) → length (mark_of k source) ≡ k
length-mark k None = length-replicate k 0
length-mark k (Some from) = length-replicate k 1

-- the marks of a map have k samples each
pub marks_have_samples : (m : SourceMap) (k : ℕ) → HaveSamples k (filled_marks m k).cells
marks_have_samples m k n lt =
    ap length (get_or-map (mark_of k) m.sources n None [] (omega (arith, length-map m.sources (mark_of k)))) ∙ length-mark k (get_or m.sources n None)

-- a row of a box in the output has few bytes
pub row_short : (canvas : CanvasState) (rect : Box3) → IsCanvas canvas → HoldsBox canvas.map.size rect.corner rect.size → canvas.picture.k * rect.size.w ≤ 24576
row_short canvas rect is holds =
    let w : rect.size.w ≤ GREATEST_AXIS = omega (arith, ints, holds.x.from, holds.x.to, is.map.small.axes.w.1) in
    omega (arith, mul-le-mul is.picture.samples.1 w)

-- an unfilled cell has no error
pub unfilled_error : (m : SourceMap) (sample : Cells) (placement : Placement) (x y f : ℕ) → (IsFilled m (cell_in placement.rect x y f) → ⊥) → spot_error m sample placement x y f ≡ 0
unfilled_error m sample placement x y f not = by (map_at m (cell_in placement.rect x y f)) not
  where
    by : (o : Option At) → (IsSome o → ⊥) → cell_error sample o (new_source placement (cell_in placement.rect x y f)) ≡ 0
    by None none = refl
    by (Some from) none = absurd (none refl)

module _ (canvas : CanvasState) (sample : Cells) (placement : Placement) (is : IsCanvas canvas) (volume : IsVolume sample) (stands : StandsOver canvas sample) (fits : Fits canvas.map.size sample placement) (y f : ℕ) (ly : y < placement.rect.size.h) (lf : f < placement.rect.size.f) where
  pub picture_count : length canvas.picture.cells ≡ cell_count canvas.map.size
  picture_count = is.picture.count ∙ ap (count_from canvas.picture.size) is.part ∙ ap cell_count is.size

  pub in_output : IsRow canvas.map.size placement.rect.corner placement.rect.size.w y f
  in_output = row_of canvas.map.size placement.rect.corner placement.rect.size y f fits.inside fits.some.w ly lf

  pub in_sample : IsVolumeRow sample placement.from placement.rect.size.w y f
  in_sample = row_in_volume sample volume placement.from placement.rect.size y f fits.sources fits.some.w ly lf

  module _ (x : ℕ) (lx : x < placement.rect.size.w) where
    abbrev old : At
    old = plus placement.rect.corner (spot x y f)

    abbrev new : At
    new = plus placement.from (spot x y f)

    abbrev source : Option At
    source = get_or canvas.map.sources (in_output.first + x) None

    below : in_output.first + x < length canvas.map.sources
    below = omega (arith, is.map.count, in_output.fits)

    is_source : map_at canvas.map old ≡ source
    is_source = ap (source_at canvas.map.sources) (in_output.cell x lx)

    is_new : new_source placement old ≡ new
    is_new = ap (plus placement.from) (plus_minus placement.rect.corner (spot x y f))

    abbrev a : List ℕ
    a = get_or canvas.picture.cells (in_output.first + x) []

    abbrev b : List ℕ
    b = get_or sample.cells (in_sample.first + x) []

    in_old : cell_at canvas.picture old ≡ Some a
    in_old = cell_is canvas.picture is.picture old (in_output.first + x) (subst (λ size. index_in size old ≡ Some (in_output.first + x)) (sym is.size) (in_output.cell x lx))

    in_new : cell_at sample new ≡ Some b
    in_new = cell_by_index sample volume new (in_sample.first + x) (in_sample.cell x lx)

    by_source : (o : Option At) → source ≡ o → masked_sum_of_squared_differences a b (mark_of canvas.picture.k o) ≡ cell_error sample o new
    by_source None is_o = masked_by_zeros canvas.picture.k a b
    by_source (Some from) is_o =
        masked_by_ones canvas.picture.k a b (have_samples canvas.picture is.picture (in_output.first + x) (omega (arith, picture_count, in_output.fits)))
        ∙ (λ k. sum_of_squared_differences (ap (λ o. unwrap_or o []) (sym in_old ∙ stands.bytes old from (is_source ∙ is_o)) k) (ap (λ o. unwrap_or o []) (sym in_new) k))

    cell_is_error : masked_sum_of_squared_differences a b (get_or (filled_marks canvas.map canvas.picture.k).cells (in_output.first + x) []) ≡ cell_error sample (map_at canvas.map old) (new_source placement old)
    cell_is_error =
        ap (masked_sum_of_squared_differences a b) (get_or-map (mark_of canvas.picture.k) canvas.map.sources (in_output.first + x) None [] below)
        ∙ by_source source refl
        ∙ (λ k. cell_error sample (sym is_source k) (sym is_new k))

    filled_is_error : IsFilled canvas.map old → sum_of_squared_differences a b ≡ spot_error canvas.map sample placement x y f
    filled_is_error filled =
        let from = unwrap_or (map_at canvas.map old) old in
        let is_from : map_at canvas.map old ≡ Some from = has_index (map_at canvas.map old) old filled in
        (λ k. sum_of_squared_differences (ap (λ o. unwrap_or o []) (sym in_old ∙ stands.bytes old from is_from) k) (ap (λ o. unwrap_or o []) (sym in_new) k))
        ∙ (λ k. cell_error sample (sym is_from k) (sym is_new k))

  -- the same of a run of filled cells
  pub run_is_error : (x n : ℕ) → 1 ≤ n → x + n ≤ placement.rect.size.w → ((j : ℕ) → j < n → IsFilled canvas.map (plus placement.rect.corner (spot (x + j) y f)))
      → sum_of_squared_differences (row_at canvas.picture (plus placement.rect.corner (spot x y f)) n) (row_at sample (plus placement.from (spot x y f)) n) ≡ sum_to n (λ j. spot_error canvas.map sample placement (x + j) y f)
  run_is_error x n some le filled =
      let lx : x < placement.rect.size.w = omega arith in
      let old_at = index_front canvas.picture.size canvas.picture.more (plus placement.rect.corner (spot x y f)) (in_output.first + x)
      (subst (λ size. index_in size (plus placement.rect.corner (spot x y f)) ≡ Some (in_output.first + x)) (sym is.size) (in_output.cell x lx)) in
      (λ k. sum_of_squared_differences
      (row_is_run canvas.picture is.picture (plus placement.rect.corner (spot x y f)) (in_output.first + x) n old_at k)
      (row_is_run sample volume (plus placement.from (spot x y f)) (in_sample.first + x) n (in_sample.cell x lx) k))
      ∙ plain_cells canvas.picture.k canvas.picture.cells sample.cells
      (have_samples canvas.picture is.picture) (λ i lt. have_samples sample volume i lt ∙ sym stands.samples)
      (in_output.first + x) (in_sample.first + x) n
      (omega (arith, picture_count, in_output.fits)) (omega (arith, in_sample.fits))
      ∙ sum_equal counts n _ _ (λ j lj.
      (λ k. sum_of_squared_differences (get_or canvas.picture.cells (further in_output.first j k) []) (get_or sample.cells (further in_sample.first j k) []))
      ∙ filled_is_error (x + j) (omega arith) (filled j lj))
    where
      further : (first j : ℕ) → (first + x) + j ≡ first + (x + j)
      further first j = omega arith

  pub row_is_error : masked_sum_of_squared_differences (row_at canvas.picture (plus placement.rect.corner (spot 0 y f)) placement.rect.size.w) (row_at sample (plus placement.from (spot 0 y f)) placement.rect.size.w) (row_at (filled_marks canvas.map canvas.picture.k) (plus placement.rect.corner (spot 0 y f)) placement.rect.size.w)
      ≡ row_error canvas.map sample placement y f
  row_is_error =
      (λ k. masked_sum_of_squared_differences
      (row_is_run canvas.picture is.picture (plus placement.rect.corner (spot 0 y f)) in_output.first placement.rect.size.w (index_front canvas.picture.size canvas.picture.more (plus placement.rect.corner (spot 0 y f)) in_output.first (subst (λ size. index_in size (plus placement.rect.corner (spot 0 y f)) ≡ Some in_output.first) (sym is.size) in_output.start)) k)
      (row_is_run sample volume (plus placement.from (spot 0 y f)) in_sample.first placement.rect.size.w in_sample.start k)
      (ap (run_from (filled_marks canvas.map canvas.picture.k).cells placement.rect.size.w) in_output.start k))
      ∙ masked_cells canvas.picture.k canvas.picture.cells sample.cells (filled_marks canvas.map canvas.picture.k).cells
      (have_samples canvas.picture is.picture) (λ n lt. have_samples sample volume n lt ∙ sym stands.samples) (marks_have_samples canvas.map canvas.picture.k)
      in_output.first in_sample.first placement.rect.size.w
      (omega (arith, picture_count, in_output.fits)) (omega (arith, in_sample.fits))
      (omega (arith, length-map canvas.map.sources (mark_of canvas.picture.k), is.map.count, in_output.fits))
      ∙ sum_equal counts placement.rect.size.w _ _ cell_is_error
