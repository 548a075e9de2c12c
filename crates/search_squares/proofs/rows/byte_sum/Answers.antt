use Rattle.std.proofs.Common.{arith}
use Rattle.std.proofs.lemmas.Grind.{common_steps}
use Rattle.search_squares.proofs.rows.byte_sum.Goals as goal

pub loop-byte-preserved : goal.loop-byte-preserved
loop-byte-preserved c = grind (arith, common_steps)

pub returns-clause-sum : goal.returns-clause-sum
returns-clause-sum c = grind (arith, common_steps)
