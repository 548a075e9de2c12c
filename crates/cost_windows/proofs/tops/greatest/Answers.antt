use Rattle.std.proofs.Common.{inl, inr}
use Rattle.cost_windows.proofs.Worsts.{greatest_more, greatest_of_one}
use Rattle.cost_windows.proofs.tops.greatest.Goals as goal
use Rattle.cost_windows.proofs.tops.greatest.Goals.{then-numbers-i, else-numbers-i}

pub loop-i-init : goal.loop-i-init
loop-i-init c = greatest_of_one c.args.numbers.now

pub loop-i-preserved : goal.loop-i-preserved
loop-i-preserved c =
    greatest_more c.args.numbers.now c.loop-i.i c.loop-i.best c.if-numbers-i.best c.loop-i.invariant
    (elim c.if-numbers-i.branch [ then-numbers-i w ↦ inl (w.if-numbers-i.true, w.best-is) | else-numbers-i w ↦ inr (w.if-numbers-i.false, w.best-is) ])
