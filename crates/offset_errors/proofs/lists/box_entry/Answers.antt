use Rattle.std.proofs.Common.{arith}
use Rattle.std.proofs.lemmas.Grind.{common_steps}
use Rattle.offset_errors.proofs.lists.box_entry.Goals as goal

pub returns-then-at-size-3 : goal.returns-then-at-size-3
returns-then-at-size-3 c = grind (arith, common_steps)
