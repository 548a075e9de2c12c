use Rattle.std.proofs.lemmas.Grind.{common_steps}
use Rattle.std.proofs.Common.{arith}
use Rattle.match_error.specs.Errors.{row_error}
use Rattle.match_error.proofs.Bounds.{passed}
use Rattle.match_error.proofs.overlap.with_frame.Goals as goal

pub overflow_add-sum : goal.overflow_add-sum
overflow_add-sum c =
    omega (arith, c.loop-y.invariant.fits, c.row_sum-sum.ensures.small, c.loop-y-test.true, c.requires.count, c.requires.small.axes.h, c.requires.small.axes.f)

pub returns-then-sum-limit-clause-none : goal.returns-then-sum-limit-clause-none
returns-then-sum-limit-clause-none c =
    passed c.args.limit c.args.before c.args.placement.now.rect.size.h c.loop-y.y (λ y. row_error c.args.canvas.now.map c.args.sample.now c.args.placement.now y c.args.f) (omega arith) (omega arith)

pub returns-clause-small : goal.returns-clause-small
returns-clause-small c = omega (arith, c.loop-y.invariant.fits, c.loop-y.auto.y-end, c.requires.small.axes.h)

pub loop-y-preserved : goal.loop-y-preserved
loop-y-preserved c = grind (arith, common_steps)

pub returns-clause-some : goal.returns-clause-some
returns-clause-some c = grind (arith, common_steps)
