use Rattle.std.proofs.Common.{arith, ◌*◌, ◌∙◌, ap, sym, subst}
use Rattle.std.proofs.lemmas.Grind.{common_steps}
use Rattle.std.specs.Prelude.{IfSome}
use Rattle.cells.specs.Boxes.{HoldsBox}
use Rattle.cells.specs.Cells.{Cells, HasRun, Holds, row_at}
use Rattle.cells.specs.Places.{plus, spot}
use Rattle.cells.proofs.PartBoxes.{box_held}
use Rattle.lane_kernels.specs.Sums.{masked_sum_of_squared_differences}
use Rattle.map_canvas.specs.Canvases.{filled_marks}
use Rattle.match_error.specs.LaidRows.{IsFront}
use Rattle.match_error.proofs.Overlaps.{in_sample, row_is_error, row_short}
use Rattle.match_error.proofs.overlap.row_sum.Goals as goal

pub box_row-old-requires-clause-held : goal.box_row-old-requires-clause-held
box_row-old-requires-clause-held c =
    let rect = c.args.placement.now.rect in
    subst (λ (v : Cells). Holds v rect.corner rect.size) (sym c.picture.ensures.picture)
    (box_held c.args.canvas.now.picture rect.corner rect.size (subst (λ size. HoldsBox size rect.corner rect.size) (sym c.picture.ensures.canvas.size) c.requires.fits.inside))

pub box_row-old-requires-clause-front : goal.box_row-old-requires-clause-front
box_row-old-requires-clause-front c =
    subst (λ (v : Cells). IfSome c.args.fronts.old (IsFront v c.args.placement.now.rect.corner)) (sym c.picture.ensures.picture) c.requires.fronts.old

pub runs_sum-requires-clause-bytes : goal.runs_sum-requires-clause-bytes
runs_sum-requires-clause-bytes c =
    let rect = c.args.placement.now.rect in
    record {
      is_old = c.box_row-old.ensures.bytes ∙ ap (λ (v : Cells). row_at v (plus rect.corner (spot 0 c.args.y c.args.f)) rect.size.w) c.picture.ensures.picture;
      is_new = c.box_row-new.ensures.bytes;
      old_long = c.box_row-old.ensures.len ∙ ap (λ (v : Cells). v.k * rect.size.w) c.picture.ensures.picture ∙ ap (λ k. k * rect.size.w) c.requires.over.samples;
      new_long = c.box_row-new.ensures.len;
    }

pub runs_sum-requires-clause-runs : goal.runs_sum-requires-clause-runs
runs_sum-requires-clause-runs c = grind (arith, common_steps)

pub runs_sum-requires-clause-fits : goal.runs_sum-requires-clause-fits
runs_sum-requires-clause-fits c = c.requires.fits

pub runs_sum-requires-clause-over : goal.runs_sum-requires-clause-over
runs_sum-requires-clause-over c = c.requires.over

pub box_row-new-requires-clause-front : goal.box_row-new-requires-clause-front
box_row-new-requires-clause-front c = c.requires.fronts.new

pub box_row-new-requires-clause-held : goal.box_row-new-requires-clause-held
box_row-new-requires-clause-held c = c.requires.fits.sources

pub returns-in-Some-clause-small : goal.returns-in-Some-clause-small
returns-in-Some-clause-small c = c.runs_sum.ensures.small

pub returns-in-Some-clause-sum : goal.returns-in-Some-clause-sum
returns-in-Some-clause-sum c = c.runs_sum.ensures.sum

pub runs_of-runs-requires-clause-rows : goal.runs_of-runs-requires-clause-rows
runs_of-runs-requires-clause-rows c = grind (arith, common_steps)

pub row_start-from-requires-clause-fits : goal.row_start-from-requires-clause-fits
row_start-from-requires-clause-fits c =
    (in_sample c.args.canvas.now c.args.sample.now c.args.placement.now c.picture-picture.ensures.canvas c.samples-sample.ensures.volume c.requires.over c.requires.fits c.args.y c.args.f c.requires.counts.0 c.requires.counts.1).sum

pub row-new-requires : goal.row-new-requires
row-new-requires c =
    subst (λ p. HasRun c.args.sample.now p c.args.placement.now.rect.size.w) (sym c.row_start-from.ensures)
    (in_sample c.args.canvas.now c.args.sample.now c.args.placement.now c.picture-picture.ensures.canvas c.samples-sample.ensures.volume c.requires.over c.requires.fits c.args.y c.args.f c.requires.counts.0 c.requires.counts.1).run

pub ssd_masked-requires-clause-within_limit : goal.ssd_masked-requires-clause-within_limit
ssd_masked-requires-clause-within_limit c = omega (arith, row_short c.args.canvas.now c.args.placement.now.rect c.picture-picture.ensures.canvas c.requires.fits.inside, c.row-old.ensures.len, ap (λ (v : Cells). v.k * c.args.placement.now.rect.size.w) c.picture-picture.ensures.picture)

pub returns-clause-small : goal.returns-clause-small
returns-clause-small c =
    omega (arith, c.ssd_masked.ensures.bound, row_short c.args.canvas.now c.args.placement.now.rect c.picture-picture.ensures.canvas c.requires.fits.inside, c.row-old.ensures.len, ap (λ (v : Cells). v.k * c.args.placement.now.rect.size.w) c.picture-picture.ensures.picture)

pub returns-clause-sum : goal.returns-clause-sum
returns-clause-sum c =
    let canvas = c.args.canvas.now in
    let sample = c.args.sample.now in
    let placement = c.args.placement.now in
    let w = placement.rect.size.w in
    c.ssd_masked.ensures.sum
    ∙ (λ k. masked_sum_of_squared_differences
    ((c.row-old.ensures.bytes ∙ (λ j. row_at (c.picture-picture.ensures.picture j) (c.row_start-at.ensures j) w)) k)
    ((c.row-new.ensures.bytes ∙ (λ j. row_at sample (c.row_start-from.ensures j) w)) k)
    ((c.filled_row-marks.ensures.marks ∙ (λ j. row_at (filled_marks canvas.map canvas.picture.k) (c.row_start-at.ensures j) w)) k))
    ∙ row_is_error canvas sample placement c.picture-picture.ensures.canvas c.samples-sample.ensures.volume c.requires.over c.requires.fits c.args.y c.args.f c.requires.counts.0 c.requires.counts.1

pub filled_row-marks-requires-clause-inside : goal.filled_row-marks-requires-clause-inside
filled_row-marks-requires-clause-inside c = grind (arith, common_steps)

pub ssd_masked-requires-clause-same_length : goal.ssd_masked-requires-clause-same_length
ssd_masked-requires-clause-same_length c = grind (arith, common_steps)

pub ssd_masked-requires-clause-mask_length : goal.ssd_masked-requires-clause-mask_length
ssd_masked-requires-clause-mask_length c = grind (arith, common_steps)

pub filled_row-marks-requires-clause-room : goal.filled_row-marks-requires-clause-room
filled_row-marks-requires-clause-room c = grind (arith, common_steps)

pub row_start-from-requires-clause-counts : goal.row_start-from-requires-clause-counts
row_start-from-requires-clause-counts c = grind (arith, common_steps)

pub row_start-at-requires-clause-fits : goal.row_start-at-requires-clause-fits
row_start-at-requires-clause-fits c = grind (arith, common_steps)

pub row_start-at-requires-clause-counts : goal.row_start-at-requires-clause-counts
row_start-at-requires-clause-counts c = grind (arith, common_steps)
