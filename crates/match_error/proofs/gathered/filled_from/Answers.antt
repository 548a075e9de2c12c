use Rattle.std.proofs.Common.{arith}
use Rattle.std.proofs.lemmas.Grind.{common_steps}
use Rattle.match_error.proofs.gathered.filled_from.Goals as goal

pub returns-else-is_filled-clause-end : goal.returns-else-is_filled-clause-end
returns-else-is_filled-clause-end c = grind (arith, common_steps)
