use Rattle.std.proofs.lemmas.Grind.{common_steps}
use Rattle.std.proofs.Common.{arith}
use Rattle.std.proofs.Math.Nat.{mul-le-mul_left}
use Rattle.cut_check.specs.Records.{setting}
use Rattle.cut_check.proofs.Order.{each_pair}
use Rattle.cut_check.proofs.bounds.first_unbounded.Goals as goal

pub loop-row-init : goal.loop-row-init
loop-row-init c = λ x y f are lt. absurd (omega (arith, lt))

pub loop-row-preserved : goal.loop-row-preserved
loop-row-preserved c = λ x y f are lt. c.in_default.ensures.hold x y f are (omega (arith, lt))

pub returns-clause-hold : goal.returns-clause-hold
returns-clause-hold c = λ held.
    let size = c.args.cut.now.placement.rect.size in
    each_pair (setting c.args.map.now c.args.sample.now held) c.args.cut.now
    (λ x y f are lt. c.loop-row.invariant x y f are (omega (arith, lt, mul-le-mul_left size.w c.loop-row-test.false)))

pub first_of_row-requires-clause-before : goal.first_of_row-requires-clause-before
first_of_row-requires-clause-before c = grind (arith, common_steps)
