use Rattle.std.proofs.lemmas.Grind.{common_steps}
use Rattle.std.proofs.Common.{arith}
use Rattle.max_flow.proofs.triangles.Shorter.read.Goals as goal

pub pipes-preserved : goal.pipes-preserved
pipes-preserved c = grind (arith, common_steps)

pub pipes-smaller-then-max-self : goal.pipes-smaller-then-max-self
pipes-smaller-then-max-self c = omega arith

pub bounds-after-1 : goal.bounds-after-1
bounds-after-1 c = omega arith

pub pipes-preserved-then-max-self : goal.pipes-preserved-then-max-self
pipes-preserved-then-max-self c = omega arith

pub push_reserved-requires : goal.push_reserved-requires
push_reserved-requires c = omega arith

pub slice_bounds-after-count : goal.slice_bounds-after-count
slice_bounds-after-count c = omega arith

pub pipes-smaller : goal.pipes-smaller
pipes-smaller c = grind (arith, common_steps)

pub bounds-after-0 : goal.bounds-after-0
bounds-after-0 c = grind (arith, common_steps)

pub slice_bounds-beyond-start : goal.slice_bounds-beyond-start
slice_bounds-beyond-start c = grind (arith, common_steps)

pub slice_bounds-beyond-count : goal.slice_bounds-beyond-count
slice_bounds-beyond-count c = grind (arith, common_steps)
