use Rattle.std.proofs.Common.{arith}
use Rattle.std.proofs.lemmas.Grind.{common_steps}
use Rattle.shelf_core.proofs.tape.put_in.Goals as goal

pub returns-clause-items : goal.returns-clause-items
returns-clause-items c = grind (arith, common_steps)

pub rotate_right-requires : goal.rotate_right-requires
rotate_right-requires c = grind (arith, common_steps)

pub slice_bounds-rotate_right-count : goal.slice_bounds-rotate_right-count
slice_bounds-rotate_right-count c = grind (arith, common_steps)

pub slice_bounds-rotate_right-start : goal.slice_bounds-rotate_right-start
slice_bounds-rotate_right-start c = grind (arith, common_steps)
