use Rattle.std.proofs.Common.{◌∙◌, sym}
use Rattle.costs.proofs.MarkLaws.{cell_at}
use Rattle.cut_check.proofs.Cells.{counts_in, holds_largest}
use Rattle.cut_check.proofs.rules.box_cell.Goals as goal

pub cell-requires-clause-inside : goal.cell-requires-clause-inside
cell-requires-clause-inside c = holds_largest c.args.map.now c.args.placement.now c.requires.lies

pub cell-requires-clause-counts : goal.cell-requires-clause-counts
cell-requires-clause-counts c = counts_in c.args.placement.now c.args.i c.args.at c.requires.here c.requires.below

pub returns : goal.returns
returns c =
    let at = c.args.at in
    c.cell.ensures ∙ sym (cell_at c.args.placement.now c.args.i at.x at.y at.f c.requires.here)
