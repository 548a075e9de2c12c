use Rattle.std.proofs.Common.{arith}
use Rattle.std.proofs.lemmas.Grind.{common_steps}
use Rattle.std.proofs.Common.{below_more}
use Rattle.strip_boundary.proofs.check.first_bad_sum_of.Goals as goal

pub loop-col-preserved : goal.loop-col-preserved
loop-col-preserved c = below_more _ _ c.loop-col.invariant (c.sum_holds.ensures.0 c.if-not-sum_holds.false)

pub returns-then-not-sum_holds-clause-here : goal.returns-then-not-sum_holds-clause-here
returns-then-not-sum_holds-clause-here c = grind (arith, common_steps)

pub returns-then-not-sum_holds-clause-before : goal.returns-then-not-sum_holds-clause-before
returns-then-not-sum_holds-clause-before c = grind (arith, common_steps)

pub returns-clause-none : goal.returns-clause-none
returns-clause-none c = grind (arith, common_steps)

pub returns-then-not-sum_holds-clause-inside : goal.returns-then-not-sum_holds-clause-inside
returns-then-not-sum_holds-clause-inside c = grind (arith, common_steps)
