use Rattle.cost_windows.proofs.Rows.{RowsPut}
use Rattle.cost_windows.specs.Slides.{row_offset, row_start}
use Rattle.cost_windows.proofs.reach.put_rows.Given as goal

abbrev pub invariant-loop-row : goal.invariant-loop-row
invariant-loop-row l = RowsPut l.block.x.len l.row (row_start l.corners l.block) (row_offset l.size l.block) l.keep l.fn.sums l.more l.sums
