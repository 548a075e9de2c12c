use Rattle.std.proofs.Common.{arith}
use Rattle.std.proofs.lemmas.Grind.{common_steps}
use Rattle.offset_errors.proofs.errors.counts_after.Goals as goal

pub returns-in_err-count_after-3 : goal.returns-in_err-count_after-3
returns-in_err-count_after-3 c = grind (arith, common_steps)

pub returns-in_err-count_after-2 : goal.returns-in_err-count_after-2
returns-in_err-count_after-2 c = grind (arith, common_steps)

pub returns-in_err-count_after : goal.returns-in_err-count_after
returns-in_err-count_after c = grind (arith, common_steps)
