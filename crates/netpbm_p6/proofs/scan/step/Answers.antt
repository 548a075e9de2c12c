use Rattle.std.proofs.Common.{arith}
use Rattle.std.proofs.lemmas.Grind.{common_steps}
use Rattle.netpbm_p6.proofs.scan.step.Goals as goal

pub returns-in-Digits-clause-sound : goal.returns-in-Digits-clause-sound
returns-in-Digits-clause-sound c = grind (arith, common_steps)
