use Rattle.std.proofs.Common.{arith}
use Rattle.std.proofs.Math.Nat.{mul-le-mul_left}
use Rattle.cut_check.proofs.rules.first_new.Goals as goal

pub loop-row-init : goal.loop-row-init
loop-row-init c = λ k lt. absurd (omega arith)

pub loop-row-preserved : goal.loop-row-preserved
loop-row-preserved c = λ k lt. c.in_default.ensures.hold k (omega (arith, lt))

pub returns-clause-hold : goal.returns-clause-hold
returns-clause-hold c = λ sample k lt.
    let size = c.args.cut.now.placement.rect.size in
    c.loop-row.invariant k (omega (arith, lt, mul-le-mul_left size.w c.loop-row-test.false))
