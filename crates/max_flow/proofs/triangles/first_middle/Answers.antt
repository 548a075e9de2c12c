use Rattle.std.proofs.lemmas.Grind.{common_steps}
use Rattle.std.proofs.Common.{arith}
use Rattle.max_flow.proofs.triangles.first_middle.Goals as goal

pub pipes-smaller-in-len1-up : goal.pipes-smaller-in-len1-up
pipes-smaller-in-len1-up c = omega arith

pub bounds-after-1 : goal.bounds-after-1
bounds-after-1 c = omega arith

pub slice_bounds-after-count : goal.slice_bounds-after-count
slice_bounds-after-count c = omega arith

pub bounds-after-0 : goal.bounds-after-0
bounds-after-0 c = grind (arith, common_steps)

pub slice_bounds-beyond-start : goal.slice_bounds-beyond-start
slice_bounds-beyond-start c = grind (arith, common_steps)
