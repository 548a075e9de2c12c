use Rattle.std.proofs.lemmas.Grind.{common_steps}
use Rattle.std.proofs.Common.{arith, ⊎_elim, inl, inr}
use Rattle.std.proofs.lemmas.Int.{ints}
use Rattle.cost_windows.proofs.block.touched_run.Goals as goal

pub returns-clause-others : goal.returns-clause-others
returns-clause-others c = λ corner lt out. ⊎_elim
    (λ before. inl (omega (arith, ints, c.clipped-first.ensures.below corner before)))
    (λ after. inr (omega (arith, ints, c.clipped-end.ensures.from corner (omega arith) lt)))
    out

pub overflow_add-start : goal.overflow_add-start
overflow_add-start c = grind (arith, common_steps)

pub overflow_add-start-2 : goal.overflow_add-start-2
overflow_add-start-2 c = grind (arith, common_steps)

pub overflow_sub-start : goal.overflow_sub-start
overflow_sub-start c = grind (arith, common_steps)
