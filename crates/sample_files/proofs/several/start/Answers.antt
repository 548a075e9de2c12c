use Rattle.std.proofs.Common.{arith}
use Rattle.std.proofs.lemmas.Grind.{common_steps}
use Rattle.sample_files.proofs.several.start.Goals as goal

pub returns-then-not-can_turn : goal.returns-then-not-can_turn
returns-then-not-can_turn c = grind (arith, common_steps)

pub returns : goal.returns
returns c = grind (arith, common_steps)
