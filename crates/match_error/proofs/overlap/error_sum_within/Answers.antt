use Rattle.std.proofs.Common.{arith}
use Rattle.std.proofs.lemmas.Grind.{common_steps}
use Rattle.match_error.proofs.overlap.error_sum_within.Goals as goal

pub box_sum_within-requires-clause-filled : goal.box_sum_within-requires-clause-filled
box_sum_within-requires-clause-filled c = grind (arith, common_steps)
