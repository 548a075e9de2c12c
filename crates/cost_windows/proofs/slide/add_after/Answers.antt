use Rattle.std.proofs.Common.{arith}
use Rattle.std.proofs.lemmas.Grind.{common_steps}
use Rattle.cost_windows.proofs.slide.add_after.Goals as goal

pub entries-preserved : goal.entries-preserved
entries-preserved c = grind (arith, common_steps)

pub entries-init : goal.entries-init
entries-init c = grind (arith, common_steps)

pub overflow_add-buffer-in-entries : goal.overflow_add-buffer-in-entries
overflow_add-buffer-in-entries c = grind (arith, common_steps)

pub returns : goal.returns
returns c = grind (arith, common_steps)
