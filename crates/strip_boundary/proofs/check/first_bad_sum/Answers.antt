use Rattle.std.proofs.Common.{arith}
use Rattle.std.proofs.lemmas.Grind.{common_steps}
use Rattle.std.proofs.Common.{ℕ, ◌<◌, below_more}
use Rattle.strip_boundary.specs.Records.{SumHolds}
use Rattle.strip_boundary.proofs.check.first_bad_sum.Goals as goal

pub loop-row-preserved : goal.loop-row-preserved
loop-row-preserved c =
    below_more (λ row. (col : ℕ) → col < c.args.strip.now.cols → SumHolds c.args.strip.now c.args.sums.now row col)
    _ c.loop-row.invariant c.in_default.ensures.none

pub returns-in-Some : goal.returns-in-Some
returns-in-Some c = grind (arith, common_steps)

pub overflow_mul-result : goal.overflow_mul-result
overflow_mul-result c = grind (arith, common_steps)

pub overflow_add-result : goal.overflow_add-result
overflow_add-result c = grind (arith, common_steps)
