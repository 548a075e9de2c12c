-- A row of the box in the target and in the sample: what the sum over the two is, and how large such sums get.
use Rattle.std.proofs.Common.{◌≡◌, ℕ, ◌+◌, ◌<◌, [], get_or, ap, sym, ◌∙◌}
use Rattle.std.specs.Prelude.{Some, unwrap_or}
use Rattle.boxes.proofs.Additions.{counts}
use Rattle.boxes.proofs.Axes.{sum_equal}
use Rattle.cells.specs.declared.place.At.{At}
use Rattle.cells.specs.Cells.{Cells, IsVolume, row_at}
use Rattle.cells.specs.Places.{plus, spot}
use Rattle.cells.proofs.BoxLaws.{plus_minus}
use Rattle.cells.proofs.CellLaws.{cell_by_index}
use Rattle.cells.proofs.PartBoxes.{box_held}
use Rattle.lane_kernels.specs.Sums.{sum_of_squared_differences}
use Rattle.map_canvas.specs.declared.canvas.Placement.{Placement}
use Rattle.map_canvas.specs.Maps.{sample_cell}
use Rattle.map_canvas.specs.Choices.{Fits, new_source}
use Rattle.match_error.proofs.RowPlaces.{IsVolumeRow, row_in_volume, have_samples, row_is_run}
use Rattle.match_error.proofs.Runs.{plain_cells}
use Rattle.targets.specs.Targets.{target_row, target_spot}

module _ (target sample : Cells) (placement : Placement) (volume : IsVolume target) (is : IsVolume sample) (same : target.k ≡ sample.k) (fits : Fits target.size sample placement) where
  module _ (y f : ℕ) (ly : y < placement.rect.size.h) (lf : f < placement.rect.size.f) where
    pub in_target : IsVolumeRow target placement.rect.corner placement.rect.size.w y f
    in_target = row_in_volume target volume placement.rect.corner placement.rect.size y f (box_held target placement.rect.corner placement.rect.size fits.inside) fits.some.w ly lf

    pub in_sample : IsVolumeRow sample placement.from placement.rect.size.w y f
    in_sample = row_in_volume sample is placement.from placement.rect.size y f fits.sources fits.some.w ly lf

    cell_is_spot : (x : ℕ) → x < placement.rect.size.w → sum_of_squared_differences (get_or target.cells (in_target.first + x) []) (get_or sample.cells (in_sample.first + x) []) ≡ target_spot target sample placement x y f
    cell_is_spot x lx =
        let old : At = plus placement.rect.corner (spot x y f) in
        let there = cell_by_index target volume old (in_target.first + x) (in_target.cell x lx) in
        let new = cell_by_index sample is (plus placement.from (spot x y f)) (in_sample.first + x) (in_sample.cell x lx) in
        let source : new_source placement old ≡ plus placement.from (spot x y f) = ap (plus placement.from) (plus_minus placement.rect.corner (spot x y f)) in
        (λ t. sum_of_squared_differences (ap (λ o. unwrap_or o []) (sym there) t) (ap (λ o. unwrap_or o []) (sym new) t))
        ∙ ap (λ (p : At). sum_of_squared_differences (sample_cell target (Some old)) (sample_cell sample (Some p))) (sym source)

    pub row_is_sum : sum_of_squared_differences (row_at target (plus placement.rect.corner (spot 0 y f)) placement.rect.size.w) (row_at sample (plus placement.from (spot 0 y f)) placement.rect.size.w) ≡ target_row target sample placement y f
    row_is_sum =
        (λ t. sum_of_squared_differences
        (row_is_run target volume (plus placement.rect.corner (spot 0 y f)) in_target.first placement.rect.size.w in_target.start t)
        (row_is_run sample is (plus placement.from (spot 0 y f)) in_sample.first placement.rect.size.w in_sample.start t))
        ∙ plain_cells target.k target.cells sample.cells (have_samples target volume) (λ n lt. have_samples sample is n lt ∙ sym same)
        in_target.first in_sample.first placement.rect.size.w in_target.fits in_sample.fits
        ∙ sum_equal counts placement.rect.size.w _ _ cell_is_spot
