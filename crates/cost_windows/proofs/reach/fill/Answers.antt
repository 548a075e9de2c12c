use Rattle.std.proofs.lemmas.Grind.{common_steps}
use Rattle.std.proofs.Common.{◌+◌, ◌-◌, ◌*◌, ◌/◌, ◌%◌, ◌≤◌, ◌<◌, ◌≡◌, drop, length, arith, length-take, length-drop}
use Rattle.std.proofs.Math.Nat.{mul-le-mul_left}
use Rattle.cells.specs.Distances.{distance}
use Rattle.cells.specs.Places.{spot}
use Rattle.map_canvas.specs.Maps.{map_at}
use Rattle.costs.specs.Costs.{most_of_pair, pair_at}
use Rattle.cost_windows.proofs.Rows.{frame_below, row_below, rows_at_most, rows_filled}
use Rattle.cost_windows.proofs.reach.fill.Goals as goal

pub loop-row-preserved : goal.loop-row-preserved
loop-row-preserved c =
    let block = c.args.block.now in
    let w = block.x.len in
    let row = c.loop-row.row in
    let made = c.loop-row.costs in
    let fits : w * row + w ≤ length made = omega (arith, c.loop-row.auto.costs, c.requires.count, mul-le-mul_left w c.loop-row-test.true) in
    let long : length c.fill_row.new.costs ≡ w = omega (arith, c.fill_row.auto.costs, length-take (w * row + w - w * row) (drop (w * row) made), length-drop (w * row) made) in
    record {
      costs = rows_filled w row made c.fill_row.new.costs (λ r k. pair_at (distance c.args.sample.now) (map_at c.args.map.now) c.args.axis (spot (block.x.from + k) (block.y.from + r % block.y.len) (block.f.from + r / block.y.len)))
          fits long c.loop-row.invariant.costs (λ k lt. c.fill_row.ensures.costs k (omega arith));
      small = rows_at_most w row most_of_pair made c.fill_row.new.costs fits long c.loop-row.invariant.small c.fill_row.ensures.small;
    }

pub slice_bounds-fill_row-end : goal.slice_bounds-fill_row-end
slice_bounds-fill_row-end c = omega (arith, c.loop-row.auto.costs, c.requires.count, mul-le-mul_left c.args.block.now.x.len c.loop-row-test.true)

pub returns-clause-small : goal.returns-clause-small
returns-clause-small c = grind (arith, common_steps)

pub fill_row-requires-clause-counts : goal.fill_row-requires-clause-counts
fill_row-requires-clause-counts c =
    let block = c.args.block.now in
    let holds = c.requires.inside in
    let row = c.loop-row.row in
    let lt : row < block.y.len * block.f.len = omega (arith, c.loop-row-test.true) in
    record {
      column = omega (arith, holds.x, c.requires.some);
      row = omega (arith, holds.y, row_below block.y.len block.f.len row lt);
      frame = omega (arith, holds.f, frame_below block.y.len block.f.len row lt);
    }

pub offset_bounds-costs-start : goal.offset_bounds-costs-start
offset_bounds-costs-start c = grind (arith, common_steps)

pub nonzero_div-first : goal.nonzero_div-first
nonzero_div-first c = grind (arith, common_steps)

pub nonzero_rem-first : goal.nonzero_rem-first
nonzero_rem-first c = grind (arith, common_steps)

pub returns-clause-costs : goal.returns-clause-costs
returns-clause-costs c = grind (arith, common_steps)

pub overflow_add-first-in-loop-row : goal.overflow_add-first-in-loop-row
overflow_add-first-in-loop-row c = grind (arith, common_steps)

pub overflow_add-first : goal.overflow_add-first
overflow_add-first c = grind (arith, common_steps)

pub overflow_add-start : goal.overflow_add-start
overflow_add-start c = grind (arith, common_steps)

pub overflow_mul-start : goal.overflow_mul-start
overflow_mul-start c = grind (arith, common_steps)

pub overflow_mul-rows : goal.overflow_mul-rows
overflow_mul-rows c = grind (arith, common_steps)

pub fill_row-requires-clause-row : goal.fill_row-requires-clause-row
fill_row-requires-clause-row c = grind (arith, common_steps)
