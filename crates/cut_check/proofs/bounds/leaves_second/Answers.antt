use Rattle.std.proofs.Common.{arith}
use Rattle.std.proofs.lemmas.Grind.{common_steps}
use Rattle.std.proofs.lemmas.Int.{ints}
use Rattle.cut_check.proofs.bounds.leaves_second.Goals as goal

pub returns-else-flow-eq0 : goal.returns-else-flow-eq0
returns-else-flow-eq0 c = grind (arith, common_steps)

pub returns-then-flow-eq0 : goal.returns-then-flow-eq0
returns-then-flow-eq0 c = (
  λ is. let up = c.is_up_to.ensures.0 is in record { x = omega (arith, ints, c.if-flow-eq0.true); y = (omega (arith, ints, up.1), omega (arith, ints, up.0)) },
  λ leaves. c.is_up_to.ensures.1 (omega (arith, ints, leaves.y.1), omega (arith, ints, leaves.y.0)),
)

pub overflow_sub-from : goal.overflow_sub-from
overflow_sub-from c = grind (arith, common_steps)
