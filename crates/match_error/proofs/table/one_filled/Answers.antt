use Rattle.std.proofs.Common.{arith}
use Rattle.std.proofs.lemmas.Grind.{common_steps}
use Rattle.match_error.proofs.table.one_filled.Goals as goal

pub returns-then-is_filled : goal.returns-then-is_filled
returns-then-is_filled c = grind (arith, common_steps)

pub returns : goal.returns
returns c = grind (arith, common_steps)

pub plus-requires : goal.plus-requires
plus-requires c = grind (arith, common_steps)

pub step_to-requires : goal.step_to-requires
step_to-requires c = grind (arith, common_steps)
