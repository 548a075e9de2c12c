use Rattle.std.proofs.Common.{◌≡◌, ◌∙◌, sym, subst}
use Rattle.std.specs.Prelude.{Some}
use Rattle.cells.specs.Cells.{HasCell}
use Rattle.cells.specs.Boxes.{cell_in}
use Rattle.lane_kernels.specs.Sums.{sum_of_squared_differences}
use Rattle.map_canvas.specs.Choices.{new_source}
use Rattle.map_canvas.specs.Maps.{map_at}
use Rattle.map_canvas.specs.CellErrors.{cell_error}
use Rattle.block_strips.proofs.Errors.{new_source_is, source_cell, source_sum}
use Rattle.block_strips.proofs.strips.error_at.Goals as goal

pub place_from-new-requires-clause-fits : goal.place_from-new-requires-clause-fits
place_from-new-requires-clause-fits c =
    source_sum c.args.canvas.now c.args.sample.now c.args.placement.now c.map-map.ensures.canvas c.requires.fits c.samples-samples.ensures.volume c.args.x c.args.y c.requires.counts.0 c.requires.counts.1

pub cell_of-requires-2 : goal.cell_of-requires-2
cell_of-requires-2 c =
    subst (HasCell c.args.sample.now) (sym c.place_from-new.ensures)
    (source_cell c.args.canvas.now c.args.sample.now c.args.placement.now c.map-map.ensures.canvas c.requires.fits c.samples-samples.ensures.volume c.args.x c.args.y c.requires.counts.0 c.requires.counts.1)

pub returns-clause-error : goal.returns-clause-error
returns-clause-error c =
    let sample = c.args.sample.now in
    let placement = c.args.placement.now in
    let at = cell_in placement.rect c.args.x c.args.y 0 in
    let new : c.place_from-new.result ≡ new_source placement at =
    c.place_from-new.ensures ∙ sym (new_source_is c.args.canvas.now sample placement c.map-map.ensures.canvas c.requires.fits c.samples-samples.ensures.volume c.args.x c.args.y c.requires.counts.0 c.requires.counts.1) in
    let old : Some c.in-Some.old ≡ map_at c.args.canvas.now.map at =
    c.in-Some.ensures.named ∙ (λ k. map_at (c.map-map.ensures.map k) (c.place_from.ensures k)) in
    c.squares.ensures.sum ∙ (λ k. sum_of_squared_differences (c.cell_of.ensures.bytes k) (c.cell_of-2.ensures.bytes k)) ∙ (λ k. cell_error sample (old k) (new k))
