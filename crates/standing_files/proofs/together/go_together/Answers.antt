use Rattle.std.proofs.Common.{arith}
use Rattle.std.proofs.lemmas.Grind.{common_steps}
use Rattle.standing_files.proofs.together.go_together.Goals as goal

pub returns-then-takes_form : goal.returns-then-takes_form
returns-then-takes_form c = grind (arith, common_steps)

pub returns-else-takes_form : goal.returns-else-takes_form
returns-else-takes_form c = grind (arith, common_steps)
