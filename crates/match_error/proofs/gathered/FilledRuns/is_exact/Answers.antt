use Rattle.std.proofs.Common.{arith}
use Rattle.std.proofs.lemmas.Grind.{common_steps}
use Rattle.match_error.proofs.gathered.FilledRuns.is_exact.Goals as goal

pub runs-preserved : goal.runs-preserved
runs-preserved c = grind (arith, common_steps)

pub returns : goal.returns
returns c = grind (arith, common_steps)

pub is_same-requires-clause-run : goal.is_same-requires-clause-run
is_same-requires-clause-run c = grind (arith, common_steps)

pub returns-then-not-is_same : goal.returns-then-not-is_same
returns-then-not-is_same c = grind (arith, common_steps)
