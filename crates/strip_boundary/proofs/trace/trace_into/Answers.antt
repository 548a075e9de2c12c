use Rattle.std.proofs.lemmas.Grind.{common_steps}
use Rattle.std.proofs.Common.{◌≡◌, ◌-◌, ◌+◌, ◌<◌, subst, arith}
use Rattle.strip_boundary.specs.Strips.{at_cell}
use Rattle.strip_boundary.specs.Tables.{IsFirstLeastNear, IsTracedFrom}
use Rattle.strip_boundary.proofs.RowLaws.{least_near, least_within, traced_at_last, traced_more}
use Rattle.strip_boundary.proofs.trace.trace_into.Goals as goal

pub loop-row-init : goal.loop-row-init
loop-row-init c =
    let strip = c.args.strip.now in
    let last = c.rows-last.result - 1 in
    let is_last : last + 1 ≡ strip.rows = omega (arith, c.rows-last.ensures.rows, c.rows-last.ensures.strip.some_rows) in
    traced_at_last strip c.args.sums.now c.args.path.now last c.first_least.result c.requires.rows is_last
    (least_within strip c.args.sums.now c.row_of.result.now last c.row_of.ensures.cols c.row_of.ensures.cells c.cols.result c.first_least.result c.cols.ensures.cols c.first_least.ensures)

pub loop-row-preserved : goal.loop-row-preserved
loop-row-preserved c =
    let strip = c.args.strip.now in
    let sums = c.args.sums.now in
    let row = c.loop-row.row - 1 in
    let near = c.first_least_near.result in
    let same : c.loop-row.row ≡ row + 1 = omega (arith, c.loop-row-test.true) in
    let inner : row + 1 < strip.rows = omega (arith, c.loop-row-test.true, c.loop-row.auto.row, c.rows-last.ensures.rows, c.rows-last.ensures.strip.some_rows) in
    traced_more strip sums c.loop-row.path row near inner (subst (IsTracedFrom strip sums c.loop-row.path) same c.loop-row.invariant)
    (subst (λ below. IsFirstLeastNear (at_cell strip sums row) strip.cols below near) c.from-below.ensures
    (least_near strip sums c.row_of-in-loop-row.result.now row c.row_of-in-loop-row.ensures.cols c.row_of-in-loop-row.ensures.cells c.from-below.result near c.first_least_near.ensures))

pub row_of-requires-in-loop-row : goal.row_of-requires-in-loop-row
row_of-requires-in-loop-row c = grind (arith, common_steps)

pub first_least_near-requires : goal.first_least_near-requires
first_least_near-requires c = grind (arith, common_steps)

pub returns : goal.returns
returns c = grind (arith, common_steps)

pub row_of-requires : goal.row_of-requires
row_of-requires c = grind (arith, common_steps)

pub bounds-path-row-in-loop-row : goal.bounds-path-row-in-loop-row
bounds-path-row-in-loop-row c = grind (arith, common_steps)

pub offset_bounds-path-row-in-loop-row : goal.offset_bounds-path-row-in-loop-row
offset_bounds-path-row-in-loop-row c = grind (arith, common_steps)

pub overflow_cast-path-in-loop-row : goal.overflow_cast-path-in-loop-row
overflow_cast-path-in-loop-row c = grind (arith, common_steps)
