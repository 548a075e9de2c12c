use Rattle.std.proofs.Common.{arith}
use Rattle.std.proofs.lemmas.Grind.{common_steps}
use Rattle.match_error.proofs.overlap.overlap_error.Goals as goal

pub returns-clause-small : goal.returns-clause-small
returns-clause-small c = grind (arith, common_steps)
