use Rattle.std.proofs.Common.{arith}
use Rattle.std.proofs.lemmas.Grind.{common_steps}
use Rattle.max_flow.proofs.checking.flow_left.Goals as goal

pub returns-else-value-lt0 : goal.returns-else-value-lt0
returns-else-value-lt0 c = grind (arith, common_steps)

pub overflow_cast-result : goal.overflow_cast-result
overflow_cast-result c = grind (arith, common_steps)

pub count_pipes-requires-clause-clear : goal.count_pipes-requires-clause-clear
count_pipes-requires-clause-clear c = c.requires.clear

pub offset_bounds-excess-source : goal.offset_bounds-excess-source
offset_bounds-excess-source c = omega arith

pub count_pipes-requires-clause-pipes : goal.count_pipes-requires-clause-pipes
count_pipes-requires-clause-pipes c = c.requires.pipes

pub slice_copy_out-value : goal.slice_copy_out-value
slice_copy_out-value c = grind (arith, common_steps)
