use Rattle.std.proofs.Common.{arith}
use Rattle.std.proofs.lemmas.Grind.{common_steps}
use Rattle.block_check.proofs.choice.is_new.Goals as goal

pub lets_new-requires-then-lets_new : goal.lets_new-requires-then-lets_new
lets_new-requires-then-lets_new c = grind (arith, common_steps)
