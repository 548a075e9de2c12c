use Rattle.std.proofs.Common.{◌+◌, ◌*◌, ◌≤◌, ◌∙◌, length, arith}
use Rattle.std.proofs.Math.Nat.{mul-le-mul_left}
use Rattle.std.proofs.lemmas.Grind.{common_steps}
use Rattle.cost_windows.proofs.RowTops.{row_top_of}
use Rattle.cost_windows.proofs.tops.fill_tops.Goals as goal

pub slice_bounds-top_of-end : goal.slice_bounds-top_of-end
slice_bounds-top_of-end c =
    omega (arith, c.requires.sums, mul-le-mul_left c.args.w (let le : c.loop-r.r + 1 ≤ length c.args.tops.now = omega (arith, c.loop-r-test.true, c.requires.end) in le))

pub loop-r-preserved : goal.loop-r-preserved
loop-r-preserved c =
    let fits : c.args.w * c.loop-r.r + c.args.w ≤ length c.args.sums.now =
    omega (arith, c.requires.sums, mul-le-mul_left c.args.w (let le : c.loop-r.r + 1 ≤ length c.args.tops.now = omega (arith, c.loop-r-test.true, c.requires.end) in le)) in
    let top = c.top_of.ensures ∙ row_top_of c.args.sums.now c.args.w c.loop-r.r fits in
    grind (arith, common_steps, top)

pub offset_bounds-sums-w : goal.offset_bounds-sums-w
offset_bounds-sums-w c = grind (arith, common_steps)

pub returns-clause-made : goal.returns-clause-made
returns-clause-made c = grind (arith, common_steps)

pub returns-clause-after : goal.returns-clause-after
returns-clause-after c = grind (arith, common_steps)

pub returns-clause-before : goal.returns-clause-before
returns-clause-before c = grind (arith, common_steps)

pub overflow_add-w : goal.overflow_add-w
overflow_add-w c = grind (arith, common_steps)
