use Rattle.std.proofs.Common.{arith}
use Rattle.std.proofs.lemmas.Grind.{common_steps}
use Rattle.cells.proofs.sizes.+frames_before.Goals as goal

pub returns-clause-frames : goal.returns-clause-frames
returns-clause-frames t c = grind (arith, common_steps)

pub frames_before-requires : goal.frames_before-requires
frames_before-requires t c = grind (arith, common_steps)

pub overflow_add-result-2 : goal.overflow_add-result-2
overflow_add-result-2 t c = grind (arith, common_steps)

pub returns-clause-small : goal.returns-clause-small
returns-clause-small t c = grind (arith, common_steps)

pub overflow_add-result : goal.overflow_add-result
overflow_add-result t c = grind (arith, common_steps)
