use Rattle.std.proofs.Common.{◌∙◌, sym, subst, ap, arith}
use Rattle.cells.specs.Boxes.{HasCells}
use Rattle.cells.specs.Places.{SumFits, plus}
use Rattle.cells.proofs.PartBoxes.{held_small}
use Rattle.map_canvas.specs.Maps.{IsSource, map_at}
use Rattle.cut_check.proofs.Cells.{holds_largest, new_source_is, new_source_near, source_sum_fits}
use Rattle.cut_check.proofs.bounds.lay.Goals as goal

pub place-requires : goal.place-requires
place-requires c =
    let counts = c.requires.counts in
    let placement = c.args.placement.now in
    let some : HasCells placement.rect.size = record { w = omega (arith, counts.column); h = omega (arith, counts.row); f = omega (arith, counts.frame) } in
    let small = held_small c.args.sample.now placement.from placement.rect.size c.requires.lies.volume some c.requires.lies.sources in
    (omega (arith, counts.column, small.axes.w.1), omega (arith, counts.row, small.axes.h.1), omega (arith, counts.frame, small.axes.f.1))

pub plus-requires : goal.plus-requires
plus-requires c =
    let at = c.args.at in
    subst (SumFits c.args.placement.now.from) (sym c.place.ensures)
    (source_sum_fits c.args.sample.now c.args.placement.now at.x at.y at.f c.requires.lies.volume c.requires.lies.sources c.requires.counts)

pub returns : goal.returns
returns c =
    let at = c.args.at in
    let placement = c.args.placement.now in
    let source = c.plus.ensures ∙ ap (plus placement.from) c.place.ensures in
    record {
      old = c.at.ensures.named ∙ ap (map_at c.args.map.now) c.cell.ensures;
      new = source ∙ new_source_is placement at.x at.y at.f;
      near_old = c.at.ensures.source;
      near_new = subst IsSource (sym source) (new_source_near c.args.sample.now placement at.x at.y at.f c.requires.lies.volume c.requires.lies.sources c.requires.counts);
    }

pub cell-requires-clause-inside : goal.cell-requires-clause-inside
cell-requires-clause-inside c = holds_largest c.args.map.now c.args.placement.now c.requires.lies.lies
