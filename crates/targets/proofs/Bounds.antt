-- How large the errors of a placement get.
use Rattle.std.proofs.Common.{ℕ, ◌+◌, ◌-◌, ◌*◌, ◌<◌, ◌≤◌, ◌^◌, List, [], length, arith}
use Rattle.std.proofs.Math.Nat.{mul-le-mul}
use Rattle.std.proofs.lemmas.Simd.{Each1-from_get_or}
use Rattle.std.specs.Prelude.{Option, Some, None, unwrap_or}
use Rattle.std.specs.Simd.Lanes.{Each1}
use Rattle.boxes.proofs.Bounds.{box_bound}
use Rattle.cells.specs.declared.place.At.{At}
use Rattle.cells.specs.Boxes.{cell_in}
use Rattle.cells.specs.Cells.{Cells, IsVolume, cell_at}
use Rattle.cells.specs.Places.{cell_count}
use Rattle.cells.proofs.CellLaws.{IfCell, cell_is_cell}
use Rattle.lane_kernels.specs.Sums.{sum_of_squared_differences}
use Rattle.lane_kernels.proofs.Bounds.{ssd_bound}
use Rattle.map_canvas.specs.declared.canvas.Placement.{Placement}
use Rattle.map_canvas.specs.Maps.{SourceMap, map_at, sample_cell}
use Rattle.map_canvas.specs.Choices.{new_source}
use Rattle.map_canvas.specs.CellErrors.{cell_error}
use Rattle.match_error.specs.Errors.{error_sum}
use Rattle.targets.specs.Targets.{target_spot, target_sum}

-- at most 6 samples, each a byte
record IsShort (cell : List ℕ) : Type 0 where
  pub samples : length cell ≤ 6
  pub bytes : Each1 (λ x. x < 256) cell

short_cell : (v : Cells) → IsVolume v → (p : At) → IsShort (sample_cell v (Some p))
short_cell v is p = by (cell_at v p) (cell_is_cell v is p)
  where
    by : (o : Option (List ℕ)) → IfCell v.k o → IsShort (unwrap_or o [])
    by None is_cell = record { samples = omega arith; bytes = tt }
    by (Some cell) is_cell = record { samples = omega (arith, is_cell.samples, is.samples); bytes = Each1-from_get_or (λ x. x < 256) cell 0 (λ i lt. is_cell.bytes i 0 lt) }

two_cells : (v u : Cells) → IsVolume v → IsVolume u → (p q : At) → sum_of_squared_differences (sample_cell v (Some p)) (sample_cell u (Some q)) ≤ 390150
two_cells v u is also p q =
    let a = short_cell v is p in
    let b = short_cell u also q in
    omega (arith, a.samples, ssd_bound (sample_cell v (Some p)) (sample_cell u (Some q)) a.bytes b.bytes)

overlap_cell : (v : Cells) → IsVolume v → (source : Option At) (new : At) → cell_error v source new ≤ 390150
overlap_cell v is None new = omega arith
overlap_cell v is (Some from) new = two_cells v v is is from new

pub target_small : (target sample : Cells) (placement : Placement) → IsVolume target → IsVolume sample → target_sum target sample placement ≤ cell_count placement.rect.size * 390150
target_small target sample placement volume is =
    box_bound placement.rect.size 390150 (λ x y f. target_spot target sample placement x y f)
    (λ x y f lx ly lf. two_cells target sample volume is (cell_in placement.rect x y f) (new_source placement (cell_in placement.rect x y f)))

pub overlap_small : (m : SourceMap) (sample : Cells) (placement : Placement) → IsVolume sample → error_sum m sample placement ≤ cell_count placement.rect.size * 390150
overlap_small m sample placement is =
    box_bound placement.rect.size 390150 (λ x y f. cell_error sample (map_at m (cell_in placement.rect x y f)) (new_source placement (cell_in placement.rect x y f)))
    (λ x y f lx ly lf. overlap_cell sample is (map_at m (cell_in placement.rect x y f)) (new_source placement (cell_in placement.rect x y f)))

-- a hundred hundredths of errors of as many cells as a volume has
pub weighed_small : (alpha overlap away cells : ℕ) → alpha ≤ 100 → overlap ≤ cells * 390150 → away ≤ cells * 390150 → cells ≤ 33554432 → alpha * overlap + (100 - alpha) * away ≤ 2 ^ 56
weighed_small alpha overlap away cells le one other few =
    let a : alpha * overlap ≤ 100 * overlap = mul-le-mul le (omega arith) in
    let b : (100 - alpha) * away ≤ 100 * away = mul-le-mul (omega arith) (omega arith) in
    omega (arith, a, b, one, other, few)
