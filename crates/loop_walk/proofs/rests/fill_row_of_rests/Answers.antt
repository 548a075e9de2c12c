use Rattle.std.proofs.Common.{arith}
use Rattle.std.proofs.lemmas.Grind.{common_steps}
use Rattle.loop_walk.proofs.rests.fill_row_of_rests.Goals as goal

pub returns-else-not-quick : goal.returns-else-not-quick
returns-else-not-quick c = grind (arith, common_steps)

pub fill_quickly-requires-clause-left : goal.fill_quickly-requires-clause-left
fill_quickly-requires-clause-left c = grind (arith, common_steps)

pub fill_quickly-requires-clause-lows : goal.fill_quickly-requires-clause-lows
fill_quickly-requires-clause-lows c = grind (arith, common_steps)

pub fill_quickly-requires-clause-halves : goal.fill_quickly-requires-clause-halves
fill_quickly-requires-clause-halves c = grind (arith, common_steps)

pub fill_quickly-requires-clause-raised : goal.fill_quickly-requires-clause-raised
fill_quickly-requires-clause-raised c = grind (arith, common_steps)

pub fill_quickly-requires-clause-near : goal.fill_quickly-requires-clause-near
fill_quickly-requires-clause-near c = grind (arith, common_steps)

pub fill_row-requires-clause-near : goal.fill_row-requires-clause-near
fill_row-requires-clause-near c = grind (arith, common_steps)

pub slice_bounds-fill_quickly-end-then-quick-2 : goal.slice_bounds-fill_quickly-end-then-quick-2
slice_bounds-fill_quickly-end-then-quick-2 c = grind (arith, common_steps)

pub slice_bounds-fill_quickly-end-then-quick : goal.slice_bounds-fill_quickly-end-then-quick
slice_bounds-fill_quickly-end-then-quick c = grind (arith, common_steps)

pub slice_bounds-fill_quickly-end : goal.slice_bounds-fill_quickly-end
slice_bounds-fill_quickly-end c = grind (arith, common_steps)

pub fill_quickly-requires-clause-sums : goal.fill_quickly-requires-clause-sums
fill_quickly-requires-clause-sums c = grind (arith, common_steps)
