use Rattle.std.proofs.Common.{arith}
use Rattle.std.proofs.lemmas.Grind.{common_steps}
use Rattle.y4m_clip.proofs.head.kind_of.Goals as goal

pub returns-then-not-is_read-clause-none : goal.returns-then-not-is_read-clause-none
returns-then-not-is_read-clause-none c = grind (arith, common_steps)

pub returns-in-Some-value_of-clause-some : goal.returns-in-Some-value_of-clause-some
returns-in-Some-value_of-clause-some c = grind (arith, common_steps)

pub returns-in-None-clause-some : goal.returns-in-None-clause-some
returns-in-None-clause-some c = grind (arith, common_steps)

pub returns-in-Some-value_of-clause-none : goal.returns-in-Some-value_of-clause-none
returns-in-Some-value_of-clause-none c = grind (arith, common_steps)
