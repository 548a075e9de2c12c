use Rattle.cut_check.proofs.RowCells.{row_cell}
use Rattle.cut_check.proofs.rows.cell_of_row.Goals as goal

pub returns : goal.returns
returns c = row_cell c.args.size c.args.row c.args.i c.requires.row c.requires.from c.requires.end
