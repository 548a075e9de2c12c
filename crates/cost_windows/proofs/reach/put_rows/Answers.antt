use Rattle.std.proofs.lemmas.Grind.{common_steps}
use Rattle.std.proofs.Common.{◌≡◌, ◌<◌, ◌+◌, ◌-◌, drop, length, sym, subst, arith, length-take, length-drop}
use Rattle.cost_windows.specs.Slides.{number_if, row_offset, row_start}
use Rattle.cost_windows.proofs.Rows.{frame_below, offset_ends, row_before, row_below, row_ends, row_more, rows_apart, rows_put}
use Rattle.cost_windows.proofs.reach.put_rows.Goals as goal

pub put_row-requires-clause-fits : goal.put_row-requires-clause-fits
put_row-requires-clause-fits c = λ k below.
    let block = c.args.block.now in
    let w = block.x.len in
    let row = c.loop-row.row in
    let to = c.index-to.result in
    let start = row_start c.args.corners block in
    let lt : k < w = omega (arith, below, length-take (to + w - to) (drop to c.loop-row.sums)) in
    let before = row_before w row to start (row_offset c.args.size block) c.args.keep c.args.sums.now c.args.more.now c.loop-row.sums c.loop-row.invariant c.index-to.ensures.index
    (λ r i j less li lj. rows_apart c.args.corners block row r i j c.requires.inside c.loop-row-test.true less li lj) k lt in
    let more = row_more w c.index-from.result (row_offset c.args.size block row) c.args.more.now (omega (arith, c.index-from.ensures.index)) k lt in
    subst (λ n. n < 18446744073709551616) (sym (λ i. number_if c.args.keep (before i) + more i)) (c.requires.fits row k c.loop-row-test.true lt)

pub loop-row-preserved : goal.loop-row-preserved
loop-row-preserved c =
    let block = c.args.block.now in
    let w = block.x.len in
    let row = c.loop-row.row in
    let to = c.index-to.result in
    let sums = c.loop-row.sums in
    let long : length c.put_row.new.sums ≡ w =
    omega (arith, c.put_row.auto.sums, length-take (to + w - to) (drop to sums), length-drop to sums, c.index-to.ensures.index, row_ends c.args.corners block row c.requires.inside c.loop-row-test.true, c.loop-row.auto.sums, c.requires.sums) in
    rows_put w row to c.index-from.result (row_start c.args.corners block) (row_offset c.args.size block) c.args.keep c.args.sums.now c.args.more.now sums c.put_row.new.sums
    c.loop-row.invariant c.index-to.ensures.index (omega (arith, c.index-from.ensures.index)) (omega (arith, c.index-to.ensures.index, row_ends c.args.corners block row c.requires.inside c.loop-row-test.true, c.loop-row.auto.sums, c.requires.sums)) long
    (λ r i j less li lj. rows_apart c.args.corners block row r i j c.requires.inside c.loop-row-test.true less li lj)
    (λ k lt. c.put_row.ensures k (omega (arith, c.put_row.auto.sums, long, lt)))

pub returns-clause-others : goal.returns-clause-others
returns-clause-others c = λ i none. c.loop-row.invariant.others i (λ r k less lt e. none r k (omega (arith, c.loop-row.auto.row-end)) lt e)

pub returns-clause-put : goal.returns-clause-put
returns-clause-put c = λ row k below lt. c.loop-row.invariant.put row k (omega (arith, below, c.loop-row-test.false)) lt

pub index-to-requires-clause-counts : goal.index-to-requires-clause-counts
index-to-requires-clause-counts c =
    let block = c.args.block.now in
    let holds = c.requires.inside in
    record {
      column = omega (arith, holds.x);
      row = omega (arith, holds.y, row_below block.y.len block.f.len c.loop-row.row c.loop-row-test.true);
      frame = omega (arith, holds.f, frame_below block.y.len block.f.len c.loop-row.row c.loop-row-test.true);
    }

pub index-from-requires-clause-counts : goal.index-from-requires-clause-counts
index-from-requires-clause-counts c =
    let block = c.args.block.now in
    let room = c.requires.room in
    record {
      column = omega arith;
      row = omega (arith, room.1, row_below block.y.len block.f.len c.loop-row.row c.loop-row-test.true);
      frame = omega (arith, room.2, frame_below block.y.len block.f.len c.loop-row.row c.loop-row-test.true);
    }

pub slice_bounds-put_row-end : goal.slice_bounds-put_row-end
slice_bounds-put_row-end c =
    omega (arith, c.index-to.ensures.index, row_ends c.args.corners c.args.block.now c.loop-row.row c.requires.inside c.loop-row-test.true, c.loop-row.auto.sums, c.requires.sums)

pub slice_bounds-put_row-end-in-loop-row : goal.slice_bounds-put_row-end-in-loop-row
slice_bounds-put_row-end-in-loop-row c =
    let room = c.requires.room in
    omega (arith, c.index-from.ensures.index, offset_ends c.args.size c.args.block.now c.loop-row.row room.0 room.1 room.2 c.loop-row-test.true, c.requires.more)

pub nonzero_div-f : goal.nonzero_div-f
nonzero_div-f c = grind (arith, common_steps)

pub nonzero_rem-y : goal.nonzero_rem-y
nonzero_rem-y c = grind (arith, common_steps)

pub put_row-requires-clause-lengths : goal.put_row-requires-clause-lengths
put_row-requires-clause-lengths c = grind (arith, common_steps)

pub overflow_mul-rows : goal.overflow_mul-rows
overflow_mul-rows c = grind (arith, common_steps)

pub overflow_add-first-in-loop-row : goal.overflow_add-first-in-loop-row
overflow_add-first-in-loop-row c = grind (arith, common_steps)

pub overflow_add-from : goal.overflow_add-from
overflow_add-from c = grind (arith, common_steps)

pub offset_bounds-more-from : goal.offset_bounds-more-from
offset_bounds-more-from c = grind (arith, common_steps)

pub index-from-requires-clause-small : goal.index-from-requires-clause-small
index-from-requires-clause-small c = grind (arith, common_steps)

pub overflow_add-to : goal.overflow_add-to
overflow_add-to c = grind (arith, common_steps)

pub offset_bounds-sums-to : goal.offset_bounds-sums-to
offset_bounds-sums-to c = grind (arith, common_steps)

pub slice_bounds-put_row-count-in-loop-row : goal.slice_bounds-put_row-count-in-loop-row
slice_bounds-put_row-count-in-loop-row c = grind (arith, common_steps)

pub index-to-requires-clause-small : goal.index-to-requires-clause-small
index-to-requires-clause-small c = grind (arith, common_steps)
