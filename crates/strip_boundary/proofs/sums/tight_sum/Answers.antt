use Rattle.std.proofs.Common.{◌≡◌, ◌≤◌, ◌<◌, ◌*◌, ◌+◌, ◌-◌, slice_index, suc, arith}
use Rattle.strip_boundary.specs.Strips.{at_cell}
use Rattle.strip_boundary.proofs.RowLaws.{first_is_tight, later_is_tight, least_near}
use Rattle.strip_boundary.proofs.SumLaws.{tight_bound}
use Rattle.strip_boundary.proofs.sums.tight_sum.Goals as goal

pub overflow_add-result : goal.overflow_add-result
overflow_add-result c =
    let strip = c.args.strip.now in
    let near = c.first_least_near.result in
    let inside : near < strip.cols = omega (arith, c.first_least_near.ensures.least.inside, c.row_of-above.ensures.cols) in
    let cell : slice_index c.row_of-above.result.now near ≡ at_cell strip c.args.sums.now (c.args.row - 1) near
    = c.row_of-above.ensures.cells near inside in
    let small : at_cell strip c.args.sums.now (c.args.row - 1) near ≤ suc (c.args.row - 1) * 195075
    = tight_bound strip c.args.sums.now c.args.row c.error-error.ensures.strip (omega arith) c.requires.above.rows_above
    (c.args.row - 1) near (omega arith) inside in
    omega (arith, cell, small, c.error-error.ensures.greatest, c.error-error.ensures.strip.most_rows)

pub row_of-above-requires : goal.row_of-above-requires
row_of-above-requires c =
    let same : c.args.row - 1 + 1 ≡ c.args.row = omega (arith, c.if-row-eq0.false) in
    rw same (omega (arith, c.requires.above.sum_per_cell))

pub returns-then-row-eq0 : goal.returns-then-row-eq0
returns-then-row-eq0 c = first_is_tight c.args.strip.now c.args.sums.now c.args.row c.args.col c.error-error.result c.if-row-eq0.true c.error-error.ensures.error

pub returns : goal.returns
returns c =
    let strip = c.args.strip.now in
    let sums = c.args.sums.now in
    let row = c.args.row in
    let near = c.first_least_near.result in
    let found = least_near strip sums c.row_of-above.result.now (row - 1) c.row_of-above.ensures.cols c.row_of-above.ensures.cells c.args.col near c.first_least_near.ensures in
    later_is_tight strip sums row c.args.col near c.error-error.result (slice_index c.row_of-above.result.now near) c.if-row-eq0.false c.error-error.ensures.error
    (c.row_of-above.ensures.cells near found.least.inside) found
