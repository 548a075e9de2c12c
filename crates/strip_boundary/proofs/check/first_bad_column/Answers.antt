use Rattle.std.proofs.Common.{arith}
use Rattle.std.proofs.lemmas.Grind.{common_steps}
use Rattle.strip_boundary.proofs.check.first_bad_column.Goals as goal

pub returns-then-path-rows : goal.returns-then-path-rows
returns-then-path-rows c = grind (arith, common_steps)

pub returns : goal.returns
returns c = grind (arith, common_steps)

pub returns-then-not-column_holds : goal.returns-then-not-column_holds
returns-then-not-column_holds c = grind (arith, common_steps)
