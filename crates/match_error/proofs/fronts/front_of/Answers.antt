use Rattle.std.proofs.Common.{arith}
use Rattle.std.proofs.lemmas.Grind.{common_steps}
use Rattle.match_error.proofs.fronts.front_of.Goals as goal

pub returns-in_err-index : goal.returns-in_err-index
returns-in_err-index c = grind (arith, common_steps)
