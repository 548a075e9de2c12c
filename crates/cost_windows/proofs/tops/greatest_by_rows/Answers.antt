use Rattle.std.proofs.lemmas.Grind.{common_steps}
use Rattle.std.proofs.Common.{◌<◌, ◌*◌, arith}
use Rattle.std.proofs.Math.Nat.{mul-le-mul_left}
use Rattle.cost_windows.proofs.RowTops.{greatest_of_rows}
use Rattle.cost_windows.proofs.tops.greatest_by_rows.Goals as goal

pub returns : goal.returns
returns c =
    greatest_of_rows c.args.size c.args.sums.now c.args.tops.now c.greatest-r.result c.greatest-k.result c.requires.sums c.requires.tops c.greatest-r.ensures c.greatest-k.ensures

pub slice_bounds-greatest-end : goal.slice_bounds-greatest-end
slice_bounds-greatest-end c =
    let size = c.args.size in
    let row : c.greatest-r.result < size.h * size.f = omega (arith, c.greatest-r.ensures.below, c.requires.tops.count) in
    omega (arith, c.requires.sums, mul-le-mul_left size.w row)

pub offset_bounds-sums-w : goal.offset_bounds-sums-w
offset_bounds-sums-w c = grind (arith, common_steps)

pub overflow_add-result : goal.overflow_add-result
overflow_add-result c = grind (arith, common_steps)

pub overflow_mul-result : goal.overflow_mul-result
overflow_mul-result c = grind (arith, common_steps)

pub greatest-r-requires : goal.greatest-r-requires
greatest-r-requires c = grind (arith, common_steps)

pub overflow_mul-w-2 : goal.overflow_mul-w-2
overflow_mul-w-2 c = grind (arith, common_steps)

pub overflow_add-w : goal.overflow_add-w
overflow_add-w c = grind (arith, common_steps)

pub overflow_mul-w : goal.overflow_mul-w
overflow_mul-w c = grind (arith, common_steps)
