use Rattle.std.proofs.lemmas.Grind.{common_steps}
use Rattle.std.proofs.Common.{◌≡◌, ◌≤◌, ◌+◌, ◌-◌, ◌%◌, ap, sym, ◌∙◌, subst, arith, replicate}
use Rattle.std.proofs.lemmas.Int.{ints}
use Rattle.std.specs.Prelude.{pos, ◌+ℤ◌, ◌≤ℤ◌}
use Rattle.cells.specs.declared.place.At.{At}
use Rattle.cells.specs.Places.{IsInside, SumFits, cell_count, plus, spot}
use Rattle.cells.specs.Cells.{Cells, HasRun, cells_of, put_row}
use Rattle.cells.proofs.Steps.{row_end}
use Rattle.map_canvas.specs.Canvases.{filled_marks}
use Rattle.map_canvas.specs.Maps.{IsSource, SourceMap}
use Rattle.map_canvas.specs.Runs.{put_copies, with_run}
use Rattle.map_canvas.specs.Choices.{box_cell, box_source}
use Rattle.map_canvas.proofs.Filling.{fits_small, fits_cell, fits_cell_sum, fits_source_sum}
use Rattle.map_canvas.proofs.Runs.{marks_with_run, run_in_sample, run_is_source, run_room}
use Rattle.map_canvas.proofs.canvas.fill_from.Goals as goal
use Rattle.map_canvas.proofs.canvas.fill_from.Goals.{After-plus-from}

-- the run that is filled
module _ (c : After-plus-from) where
  cell : c.plus-p.result ≡ box_cell c.args.placement.now c.args.i
  cell = c.plus-p.ensures ∙ ap (plus c.args.placement.now.rect.corner) c.place_at-step.ensures

  source : c.plus-from.result ≡ box_source c.args.placement.now c.args.i
  source = c.plus-from.ensures ∙ ap (plus c.args.placement.now.from) c.place_at-step.ensures

  row : c.args.i % c.args.placement.now.rect.size.w + c.new_cells-n.result ≤ c.args.placement.now.rect.size.w
  row =
      let size = c.args.placement.now.rect.size in
      let x : c.place_at-step.result.x ≡ pos (c.args.i % size.w) = λ k. (c.place_at-step.ensures k).x in
      let small = fits_small c.args.map.now.size c.args.sample.now c.args.placement.now c.requires.fits c.requires.canvas.map.small in
      omega (arith, ints, x, small.axes.w, c.new_cells-n.ensures.most, c.new_cells-n.ensures.some)

  inside : IsInside c.args.map.now.size c.plus-p.result
  inside = subst (IsInside c.args.map.now.size) (sym cell) (fits_cell c.args.map.now.size c.args.sample.now c.args.placement.now c.requires.fits c.args.i c.requires.below)

  room : (c.plus-p.result.x +ℤ pos c.new_cells-n.result) ≤ℤ pos c.args.map.now.size.w
  room =
      subst (λ (p : At). (p.x +ℤ pos c.new_cells-n.result) ≤ℤ pos c.args.map.now.size.w) (sym cell)
      (run_room c.args.map.now.size c.args.sample.now c.args.placement.now c.requires.fits c.requires.sample c.args.i c.new_cells-n.result c.requires.below row)

pub place_at-step-requires-clause-small : goal.place_at-step-requires-clause-small
place_at-step-requires-clause-small c = fits_small c.args.map.now.size c.args.sample.now c.args.placement.now c.requires.fits c.requires.canvas.map.small

pub new_cells-n-requires-clause-room : goal.new_cells-n-requires-clause-room
new_cells-n-requires-clause-room c =
    let size = c.args.placement.now.rect.size in
    let x : c.place_at-step.result.x ≡ pos (c.args.i % size.w) = λ k. (c.place_at-step.ensures k).x in
    let small = fits_small c.args.map.now.size c.args.sample.now c.args.placement.now c.requires.fits c.requires.canvas.map.small in
    let ends : c.args.i + (size.w - c.args.i % size.w) ≤ cell_count size = row_end size c.args.i (size.w - c.args.i % size.w) small.axes.w.0 c.requires.below (omega (arith, small.axes.w)) in
    omega (arith, ints, x, ends, small.axes.w, c.requires.choices)

pub plus-p-requires : goal.plus-p-requires
plus-p-requires c =
    subst (SumFits c.args.placement.now.rect.corner) (sym c.place_at-step.ensures)
    (fits_cell_sum c.args.map.now.size c.args.sample.now c.args.placement.now c.requires.fits c.requires.canvas.map.small.axes c.args.i c.requires.below)

pub plus-from-requires : goal.plus-from-requires
plus-from-requires c =
    subst (SumFits c.args.placement.now.from) (sym c.place_at-step.ensures)
    (fits_source_sum c.args.map.now.size c.args.sample.now c.args.placement.now c.requires.fits c.requires.sample c.args.i c.requires.below)

pub row-requires : goal.row-requires
row-requires c =
    let d = (goal.at.row-requires c).After-plus-from in
    subst (λ from. HasRun c.args.sample.now from c.new_cells-n.result) (sym (source d))
    (run_in_sample c.args.map.now.size c.args.sample.now c.args.placement.now c.requires.fits c.requires.sample c.args.i c.new_cells-n.result c.requires.below (row d))

pub set_row-requires-clause-run : goal.set_row-requires-clause-run
set_row-requires-clause-run c =
    let d = (goal.at.set_row-requires-clause-run c).After-plus-from in
    grind (arith, common_steps, inside d, room d)

pub set_row-requires-clause-samples : goal.set_row-requires-clause-samples
set_row-requires-clause-samples c = grind (arith, common_steps)

pub fill_row-requires : goal.fill_row-requires
fill_row-requires c =
    let d = (goal.at.fill_row-requires c).After-plus-from in
    grind (arith, common_steps, inside d, room d)

pub set_row-requires-2-clause-inside : goal.set_row-requires-2-clause-inside
set_row-requires-2-clause-inside c = inside (goal.at.set_row-requires-2-clause-inside c).After-plus-from

pub set_row-requires-2-clause-room : goal.set_row-requires-2-clause-room
set_row-requires-2-clause-room c = room (goal.at.set_row-requires-2-clause-room c).After-plus-from

pub set_row-requires-2-clause-sources : goal.set_row-requires-2-clause-sources
set_row-requires-2-clause-sources c = λ j lt.
    let d = (goal.at.set_row-requires-2-clause-sources c).After-plus-from in
    subst (λ from. IsSource (plus from (spot j 0 0))) (sym (source d))
    (run_is_source c.args.map.now.size c.args.sample.now c.args.placement.now c.requires.fits c.requires.sample c.args.i c.new_cells-n.result c.requires.below (row d) j lt)

pub place_at-step-requires-clause-below : goal.place_at-step-requires-clause-below
place_at-step-requires-clause-below c = c.requires.below

pub new_cells-n-requires-clause-first : goal.new_cells-n-requires-clause-first
new_cells-n-requires-clause-first c = c.requires.first

pub returns-clause-some : goal.returns-clause-some
returns-clause-some c = c.new_cells-n.ensures.some

pub returns-clause-new : goal.returns-clause-new
returns-clause-new c = c.new_cells-n.ensures.new

pub returns-clause-row : goal.returns-clause-row
returns-clause-row c = row (goal.at.returns-clause-row c).After-plus-from

pub returns-clause-map : goal.returns-clause-map
returns-clause-map c =
    let d = (goal.at.returns-clause-map c).After-plus-from in
    c.set_row-2.ensures ∙ (λ k. with_run c.args.map.now (cell d k) (source d k) c.new_cells-n.result)

pub returns-clause-picture : goal.returns-clause-picture
returns-clause-picture c =
    let d = (goal.at.returns-clause-picture c).After-plus-from in
    c.set_row.ensures ∙ ap (λ bytes. put_row c.args.picture.now c.plus-p.result (cells_of c.args.picture.now.k c.new_cells-n.result bytes)) c.row.ensures.bytes
    ∙ (λ k. put_copies c.args.picture.now c.args.sample.now (cell d k) (source d k) c.new_cells-n.result)

pub returns-clause-marks : goal.returns-clause-marks
returns-clause-marks c =
    let k = c.args.picture.now.k in
    let n = c.new_cells-n.result in
    c.fill_row.ensures ∙ ap (λ (v : Cells). put_row v c.plus-p.result (replicate n (replicate v.k 1))) c.requires.marks ∙ marks_with_run c.args.map.now k c.plus-p.result c.plus-from.result n
    ∙ ap (λ (m : SourceMap). filled_marks m k) (sym c.set_row-2.ensures) ∙ ap (λ (v : Cells). filled_marks c.set_row-2.new.self v.k) (sym c.set_row.ensures)

pub overflow_cast-step : goal.overflow_cast-step
overflow_cast-step c = grind (arith, common_steps)

pub new_cells-n-requires-clause-some : goal.new_cells-n-requires-clause-some
new_cells-n-requires-clause-some c = grind (arith, common_steps)

pub overflow_sub-placement : goal.overflow_sub-placement
overflow_sub-placement c = grind (arith, common_steps)
