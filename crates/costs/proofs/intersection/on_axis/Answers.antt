use Rattle.std.proofs.lemmas.Grind.{common_steps}
use Rattle.std.proofs.Common.{arith, ⊎_elim, inl, inr}
use Rattle.std.proofs.lemmas.Int.{ints}
use Rattle.costs.proofs.intersection.on_axis.Goals as goal

pub returns-clause-inside : goal.returns-clause-inside
returns-clause-inside c = λ k le lt. (
  omega (arith, ints, c.clipped-skipped.ensures.from k le (omega arith)),
  omega (arith, ints, c.clipped-end.ensures.below k (omega arith)),
)

pub returns-clause-outside : goal.returns-clause-outside
returns-clause-outside c = λ k lt out. ⊎_elim
    (λ before. inl (omega (arith, ints, c.clipped-skipped.ensures.below k before)))
    (λ past. inr (omega (arith, ints, c.clipped-end.ensures.from k (omega arith) lt)))
    out

pub returns-clause-fits : goal.returns-clause-fits
returns-clause-fits c = grind (arith, common_steps)
