use Rattle.std.proofs.Common.{arith}
use Rattle.std.proofs.lemmas.Grind.{common_steps}
use Rattle.cells.proofs.parts.More.push.Goals as goal

pub returns : goal.returns
returns c = grind (arith, common_steps)

pub bounds-self-inside-self-inside : goal.bounds-self-inside-self-inside
bounds-self-inside-self-inside c = grind (arith, common_steps)
