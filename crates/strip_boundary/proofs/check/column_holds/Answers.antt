use Rattle.std.proofs.Common.{arith}
use Rattle.std.proofs.lemmas.Grind.{common_steps}
use Rattle.strip_boundary.proofs.check.column_holds.Goals as goal

pub returns-else-row-eq0 : goal.returns-else-row-eq0
returns-else-row-eq0 c = grind (arith, common_steps)

pub bounds-path-row-else-row-eq0-2 : goal.bounds-path-row-else-row-eq0-2
bounds-path-row-else-row-eq0-2 c = grind (arith, common_steps)

pub bounds-path-row-else-row-eq0 : goal.bounds-path-row-else-row-eq0
bounds-path-row-else-row-eq0 c = grind (arith, common_steps)

pub overflow_sub-row : goal.overflow_sub-row
overflow_sub-row c = grind (arith, common_steps)

pub offset_bounds-path-row-else-row-eq0-2 : goal.offset_bounds-path-row-else-row-eq0-2
offset_bounds-path-row-else-row-eq0-2 c = grind (arith, common_steps)

pub offset_bounds-path-row-else-row-eq0 : goal.offset_bounds-path-row-else-row-eq0
offset_bounds-path-row-else-row-eq0 c = grind (arith, common_steps)
