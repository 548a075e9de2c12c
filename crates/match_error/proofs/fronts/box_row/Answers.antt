use Rattle.std.proofs.lemmas.Grind.{common_steps}
use Rattle.std.proofs.Common.{◌∙◌, ap, sym, subst, arith}
use Rattle.std.specs.Prelude.{IfSome}
use Rattle.cells.specs.Cells.{HasRun, run_from}
use Rattle.cells.proofs.PartBoxes.{held_small}
use Rattle.match_error.specs.LaidRows.{IsFront}
use Rattle.match_error.proofs.Offsets.{few_cells, row_fits, row_index}
use Rattle.match_error.proofs.RowPlaces.{row_in_volume}
use Rattle.match_error.proofs.fronts.box_row.Goals as goal

pub offset_in-requires-clause-counts : goal.offset_in-requires-clause-counts
offset_in-requires-clause-counts c =
    let small = held_small c.args.volume.now c.args.corner c.args.size c.samples-samples.ensures.volume c.requires.some c.requires.held in
    (omega arith, omega (arith, c.requires.counts.0, small.axes.h.1), omega (arith, c.requires.counts.1, small.axes.f.1))

pub cells_from-requires : goal.cells_from-requires
cells_from-requires c =
    row_fits c.args.volume.now c.samples-samples.ensures.volume c.args.corner c.args.size c.requires.some c.requires.held c.in-Some.field-0
    (subst (λ found. IfSome found (IsFront c.args.volume.now c.args.corner)) c.in-Some.is c.requires.front) c.args.y c.args.f c.offset_in.result c.offset_in.ensures c.requires.counts.0 c.requires.counts.1

pub overflow_add-index : goal.overflow_add-index
overflow_add-index c =
    let fits = row_fits c.args.volume.now c.samples-samples.ensures.volume c.args.corner c.args.size c.requires.some c.requires.held c.in-Some.field-0
    (subst (λ found. IfSome found (IsFront c.args.volume.now c.args.corner)) c.in-Some.is c.requires.front) c.args.y c.args.f c.offset_in.result c.offset_in.ensures c.requires.counts.0 c.requires.counts.1 in
    omega (arith, fits, few_cells c.args.volume.now c.samples-samples.ensures.volume)

pub returns-in-Some-clause-bytes : goal.returns-in-Some-clause-bytes
returns-in-Some-clause-bytes c =
    c.cells_from.ensures.bytes
    ∙ ap (run_from c.args.volume.now.cells c.args.size.w)
    (sym (row_index c.args.volume.now c.samples-samples.ensures.volume c.args.corner c.args.size c.requires.some c.requires.held c.in-Some.field-0
    (subst (λ found. IfSome found (IsFront c.args.volume.now c.args.corner)) c.in-Some.is c.requires.front) c.args.y c.args.f c.offset_in.result c.offset_in.ensures c.requires.counts.0 c.requires.counts.1))

pub row_start-requires-clause-counts : goal.row_start-requires-clause-counts
row_start-requires-clause-counts c =
    let small = held_small c.args.volume.now c.args.corner c.args.size c.samples-samples.ensures.volume c.requires.some c.requires.held in
    (omega (arith, c.requires.counts.0, small.axes.h.1), omega (arith, c.requires.counts.1, small.axes.f.1))

pub row_start-requires-clause-fits : goal.row_start-requires-clause-fits
row_start-requires-clause-fits c =
    (row_in_volume c.args.volume.now c.samples-samples.ensures.volume c.args.corner c.args.size c.args.y c.args.f c.requires.held c.requires.some.w c.requires.counts.0 c.requires.counts.1).sum

pub row-requires : goal.row-requires
row-requires c =
    subst (λ p. HasRun c.args.volume.now p c.args.size.w) (sym c.row_start.ensures)
    (row_in_volume c.args.volume.now c.samples-samples.ensures.volume c.args.corner c.args.size c.args.y c.args.f c.requires.held c.requires.some.w c.requires.counts.0 c.requires.counts.1).run

pub offset_in-requires-clause-axes : goal.offset_in-requires-clause-axes
offset_in-requires-clause-axes c = grind (arith, common_steps)
