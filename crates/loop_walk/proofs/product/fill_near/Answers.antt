use Rattle.std.proofs.lemmas.Grind.{common_steps}
use Rattle.std.proofs.Common.{◌+◌, ◌-◌, ◌*◌, drop, ◌∙◌, arith, length-take, length-drop}
use Rattle.std.proofs.Math.Nat.{mul-le-mul_right}
use Rattle.loop_walk.proofs.ProductLaws.{product_row_more}
use Rattle.loop_walk.proofs.product.fill_near.Goals as goal

pub loop-i-preserved : goal.loop-i-preserved
loop-i-preserved c =
    let n = c.args.n in
    let i = c.loop-i.i in
    product_row_more n i c.args.left.now c.args.nears.now c.loop-i.made c.fill_row_of_rests.new.sums c.loop-i-test.true (c.loop-i.auto.made ∙ c.requires.made)
    (omega (arith, c.fill_row_of_rests.auto.sums, length-take (i * n + n - i * n) (drop (i * n) c.loop-i.made), length-drop (i * n) c.loop-i.made, c.loop-i.auto.made, c.requires.made, mul-le-mul_right n c.loop-i-test.true))
    c.loop-i.invariant c.fill_row_of_rests.ensures

pub fill_row_of_rests-requires-clause-bases : goal.fill_row_of_rests-requires-clause-bases
fill_row_of_rests-requires-clause-bases c = grind (arith, common_steps)

pub fill_row_of_rests-requires-clause-left : goal.fill_row_of_rests-requires-clause-left
fill_row_of_rests-requires-clause-left c = grind (arith, common_steps)

pub slice_bounds-fill_row_of_rests-end-in-loop-i : goal.slice_bounds-fill_row_of_rests-end-in-loop-i
slice_bounds-fill_row_of_rests-end-in-loop-i c = grind (arith, common_steps)

pub returns : goal.returns
returns c = grind (arith, common_steps)

pub slice_bounds-bases-end-in-loop-i : goal.slice_bounds-bases-end-in-loop-i
slice_bounds-bases-end-in-loop-i c = grind (arith, common_steps)

pub fill_row_of_rests-requires-clause-near : goal.fill_row_of_rests-requires-clause-near
fill_row_of_rests-requires-clause-near c = grind (arith, common_steps)

pub slice_bounds-fill_row_of_rests-end-in-loop-i-2 : goal.slice_bounds-fill_row_of_rests-end-in-loop-i-2
slice_bounds-fill_row_of_rests-end-in-loop-i-2 c = grind (arith, common_steps)

pub loop-i-init : goal.loop-i-init
loop-i-init c = grind (arith, common_steps)

pub slice_bounds-fill_row_of_rests-end : goal.slice_bounds-fill_row_of_rests-end
slice_bounds-fill_row_of_rests-end c = grind (arith, common_steps)

pub fill_row_of_rests-requires-clause-firsts : goal.fill_row_of_rests-requires-clause-firsts
fill_row_of_rests-requires-clause-firsts c = grind (arith, common_steps)

pub fill_row_of_rests-requires-clause-nears : goal.fill_row_of_rests-requires-clause-nears
fill_row_of_rests-requires-clause-nears c = grind (arith, common_steps)

pub fill_row_of_rests-requires-clause-rests : goal.fill_row_of_rests-requires-clause-rests
fill_row_of_rests-requires-clause-rests c = grind (arith, common_steps)

pub fill_row_of_rests-requires-clause-sums : goal.fill_row_of_rests-requires-clause-sums
fill_row_of_rests-requires-clause-sums c = grind (arith, common_steps)

pub overflow_add-i-in-loop-i : goal.overflow_add-i-in-loop-i
overflow_add-i-in-loop-i c = grind (arith, common_steps)

pub offset_bounds-made-i : goal.offset_bounds-made-i
offset_bounds-made-i c = grind (arith, common_steps)

pub overflow_mul-i-in-loop-i-2 : goal.overflow_mul-i-in-loop-i-2
overflow_mul-i-in-loop-i-2 c = grind (arith, common_steps)

pub overflow_mul-i-in-loop-i-3 : goal.overflow_mul-i-in-loop-i-3
overflow_mul-i-in-loop-i-3 c = grind (arith, common_steps)

pub fill_row_of_rests-requires-clause-few : goal.fill_row_of_rests-requires-clause-few
fill_row_of_rests-requires-clause-few c = grind (arith, common_steps)

pub offset_bounds-left-i : goal.offset_bounds-left-i
offset_bounds-left-i c = grind (arith, common_steps)

pub overflow_add-i : goal.overflow_add-i
overflow_add-i c = grind (arith, common_steps)

pub overflow_mul-i : goal.overflow_mul-i
overflow_mul-i c = grind (arith, common_steps)

pub overflow_mul-i-in-loop-i : goal.overflow_mul-i-in-loop-i
overflow_mul-i-in-loop-i c = grind (arith, common_steps)

pub fill_rest_table-requires-clause-bases : goal.fill_rest_table-requires-clause-bases
fill_rest_table-requires-clause-bases c = grind (arith, common_steps)
