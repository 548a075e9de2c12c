use Rattle.std.proofs.Common.{arith}
use Rattle.std.proofs.lemmas.Grind.{common_steps}
use Rattle.cost_windows.proofs.slide.take_after.Goals as goal

pub returns : goal.returns
returns c = grind (arith, common_steps)

pub overflow_sub-buffer : goal.overflow_sub-buffer
overflow_sub-buffer c = grind (arith, common_steps)
