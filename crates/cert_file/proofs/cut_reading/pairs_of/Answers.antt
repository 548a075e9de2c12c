use Rattle.std.proofs.Common.{◌+◌, ◌-◌, ◌*◌, ◌∙◌, ap, sym, arith}
use Rattle.cert_file.proofs.PairCounts.{pairs_by_layers}
use Rattle.std.proofs.Math.Nat.{mul-le-mul_left, mul-le-mul_right}
use Rattle.cert_file.proofs.cut_reading.pairs_of.Goals as goal

pub returns-clause-pairs : goal.returns-clause-pairs
returns-clause-pairs c =
    let size = c.args.size in
    ap (λ n. (n - size.h * size.f) + (n - size.w * size.f) + (n - size.w * size.h)) c.cells_of-cells.ensures
    ∙ sym (pairs_by_layers size (record { w = c.requires.axes.w.0; h = c.requires.axes.h.0; f = c.requires.axes.f.0 }))

pub overflow_sub-result : goal.overflow_sub-result
overflow_sub-result c =
    let size = c.args.size in
    omega (arith, c.cells_of-cells.ensures, mul-le-mul_right (size.h * size.f) c.requires.axes.w.0)

pub overflow_sub-result-2 : goal.overflow_sub-result-2
overflow_sub-result-2 c =
    let size = c.args.size in
    omega (arith, c.cells_of-cells.ensures, mul-le-mul_left size.w (mul-le-mul_right size.f c.requires.axes.h.0))

pub overflow_sub-result-3 : goal.overflow_sub-result-3
overflow_sub-result-3 c =
    let size = c.args.size in
    omega (arith, c.cells_of-cells.ensures, mul-le-mul_left size.w (mul-le-mul_left size.h c.requires.axes.f.0))
