use Rattle.std.proofs.lemmas.Grind.{common_steps}
use Rattle.std.proofs.Common.{◌≡◌, ◌≤◌, arith}
use Rattle.std.proofs.lemmas.Nat.{mul-le}
use Rattle.limits.specs.declared.bounds.TheConstants.{GREATEST_AXIS}
use Rattle.strip_boundary.proofs.RowLaws.{tight_for_all, tight_for_none}
use Rattle.strip_boundary.proofs.sums.running_sums.Goals as goal

pub overflow_mul-rows : goal.overflow_mul-rows
overflow_mul-rows c =
    let few : c.rows.result ≤ GREATEST_AXIS = omega (arith, c.rows.ensures.rows, c.rows.ensures.strip.most_rows) in
    let narrow : c.cols.result ≤ GREATEST_AXIS = omega (arith, c.cols.ensures.cols, c.cols.ensures.strip.most_cols) in
    omega (arith, mul-le c.rows.result c.cols.result GREATEST_AXIS GREATEST_AXIS few narrow)

pub loop-row-init : goal.loop-row-init
loop-row-init c = tight_for_none c.args.strip.now c.in_ok-sums.sums.items (c.in_ok-sums.ensures {u = tt}).items

pub loop-row-preserved : goal.loop-row-preserved
loop-row-preserved c = c.in_ok-add_row.ensures {u = tt}

pub returns : goal.returns
returns c =
    let all : c.loop-row.row ≡ c.args.strip.now.rows = omega (arith, c.loop-row-test.false, c.loop-row.auto.row-end, c.rows-row-end.ensures.rows) in
    tight_for_all c.args.strip.now c.loop-row.sums.items c.loop-row.row all c.loop-row.invariant

pub add_row-requires-clause-row : goal.add_row-requires-clause-row
add_row-requires-clause-row c = grind (arith, common_steps)
