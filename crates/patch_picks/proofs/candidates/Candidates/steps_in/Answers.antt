use Rattle.std.proofs.Common.{arith}
use Rattle.std.proofs.lemmas.Grind.{common_steps}
use Rattle.patch_picks.proofs.candidates.Candidates.steps_in.Goals as goal

pub returns-in-Laid-clause-fits : goal.returns-in-Laid-clause-fits
returns-in-Laid-clause-fits c = grind (arith, common_steps)
