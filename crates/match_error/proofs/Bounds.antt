-- How large overlap errors get, and sums that pass a limit before their end.
use Rattle.std.proofs.Common.{ℕ, suc, ◌+◌, ◌^◌, ◌<◌, ◌≤◌, List, [], length, arith}
use Rattle.std.proofs.lemmas.Simd.{Each1-from_get_or}
use Rattle.std.specs.Prelude.{Option, Some, None, unwrap_or}
use Rattle.std.specs.Simd.Lanes.{Each1}
use Rattle.cells.specs.declared.place.At.{At}
use Rattle.cells.specs.Cells.{Cells, IsVolume, cell_at}
use Rattle.cells.specs.Places.{IsSmall, plus, spot}
use Rattle.cells.proofs.BoxLaws.{box_small}
use Rattle.cells.proofs.CellLaws.{IfCell, cell_is_cell}
use Rattle.boxes.specs.Sums.{sum_to}
use Rattle.boxes.proofs.Bounds.{box_bound, sum_bound, sum_of_more}
use Rattle.lane_kernels.proofs.Bounds.{ssd_bound}
use Rattle.map_canvas.specs.declared.canvas.Placement.{Placement}
use Rattle.map_canvas.specs.Maps.{SourceMap, map_at, sample_cell}
use Rattle.map_canvas.specs.Choices.{Fits, new_source}
use Rattle.map_canvas.specs.CellErrors.{cell_error}
use Rattle.match_error.specs.Errors.{error_sum, row_error}

-- at most 6 samples, each a byte
record IsShort (cell : List ℕ) : Type 0 where
  pub samples : length cell ≤ 6
  pub bytes : Each1 (λ x. x < 256) cell

short_cell : (v : Cells) → IsVolume v → (p : At) → IsShort (sample_cell v (Some p))
short_cell v is p = by (cell_at v p) (cell_is_cell v is p)
  where
    by : (o : Option (List ℕ)) → IfCell v.k o → IsShort (unwrap_or o [])
    by None is_cell = record { samples = omega arith; bytes = tt }
    by (Some cell) is_cell = record { samples = omega (arith, is_cell.samples, is.samples); bytes = Each1-from_get_or (λ x. x < 256) cell 0 (λ i lt. is_cell.bytes i 0 lt) }

cell_bound : (v : Cells) → IsVolume v → (source : Option At) (new : At) → cell_error v source new ≤ 390150
cell_bound v is None new = omega arith
cell_bound v is (Some from) new =
    let a = short_cell v is from in
    let b = short_cell v is new in
    omega (arith, a.samples, ssd_bound (sample_cell v (Some from)) (sample_cell v (Some new)) a.bytes b.bytes)

pub error_small : (m : SourceMap) (sample : Cells) (placement : Placement) → IsSmall m.size → IsVolume sample → Fits m.size sample placement → error_sum m sample placement ≤ 2 ^ 48
error_small m sample placement small is fits =
    let box = box_small m.size placement.rect.corner placement.rect.size small fits.some fits.inside in
    let old = λ (x y f : ℕ). plus placement.rect.corner (spot x y f) in
    let bound = box_bound placement.rect.size 390150 (λ x y f. cell_error sample (map_at m (old x y f)) (new_source placement (old x y f))) (λ x y f lx ly lf. cell_bound sample is (map_at m (old x y f)) (new_source placement (old x y f))) in
    omega (arith, bound, box.cells)

pub row_small : (m : SourceMap) (sample : Cells) (placement : Placement) (y f : ℕ) → IsSmall m.size → IsVolume sample → Fits m.size sample placement → row_error m sample placement y f ≤ 1598054400
row_small m sample placement y f small is fits =
    let box = box_small m.size placement.rect.corner placement.rect.size small fits.some fits.inside in
    let old = λ (x : ℕ). plus placement.rect.corner (spot x y f) in
    let bound = sum_bound placement.rect.size.w 390150 (λ x. cell_error sample (map_at m (old x)) (new_source placement (old x))) (λ x lx. cell_bound sample is (map_at m (old x)) (new_source placement (old x))) in
    omega (arith, bound, box.axes.w.1)

-- a sum whose first terms pass a limit passes it
pub passed : (limit before n i : ℕ) (g : ℕ → ℕ) → i < n → limit < before + (sum_to i g + g i) → limit < before + sum_to n g
passed limit before n i g lt more = let less : sum_to i g + g i ≤ sum_to n g = sum_of_more (suc i) n g (omega arith) in omega arith
