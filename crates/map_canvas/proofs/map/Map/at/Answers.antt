use Rattle.std.proofs.Common.{arith}
use Rattle.std.proofs.lemmas.Grind.{common_steps}
use Rattle.map_canvas.proofs.map.Map.at.Goals as goal

pub returns-clause-source : goal.returns-clause-source
returns-clause-source c = grind (arith, common_steps)

pub returns-in_err-i-clause-source : goal.returns-in_err-i-clause-source
returns-in_err-i-clause-source c = grind (arith, common_steps)
