use Rattle.std.proofs.Common.{arith}
use Rattle.std.proofs.lemmas.Grind.{common_steps}
use Rattle.standing_files.proofs.picture.copied_run.Goals as goal

pub overflow_add-n : goal.overflow_add-n
overflow_add-n c = grind (arith, common_steps)
