use Rattle.std.proofs.Common.{arith}
use Rattle.std.proofs.lemmas.Grind.{common_steps}
use Rattle.turned.proofs.turn.keeps_rows.Goals as goal

pub returns-then-turn-eq0 : goal.returns-then-turn-eq0
returns-then-turn-eq0 c = grind (arith, common_steps)

pub returns-else-turn-eq0 : goal.returns-else-turn-eq0
returns-else-turn-eq0 c = grind (arith, common_steps)
