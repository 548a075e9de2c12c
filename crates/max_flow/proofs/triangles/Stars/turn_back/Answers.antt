use Rattle.std.proofs.Common.{ℕ, arith}
use Rattle.std.proofs.Math.ListN.{length-set}
use Rattle.max_flow.proofs.triangles.Stars.turn_back.Goals as goal

pub bounds-backward-index-else-index-lt2 : goal.bounds-backward-index-else-index-lt2
bounds-backward-index-else-index-lt2 c = omega arith

pub bounds-pipes-index-else-index-lt2-3 : goal.bounds-pipes-index-else-index-lt2-3
bounds-pipes-index-else-index-lt2-3 c = omega arith

pub bounds-pipes-index-else-index-lt2-2 : goal.bounds-pipes-index-else-index-lt2-2
bounds-pipes-index-else-index-lt2-2 c = omega arith

pub overflow_add-backward : goal.overflow_add-backward
overflow_add-backward c = omega arith

pub pipes-smaller : goal.pipes-smaller
pipes-smaller c = omega arith

pub pipes-preserved : goal.pipes-preserved
pipes-preserved c = omega arith

pub offset_bounds-backward-index-else-index-lt2 : goal.offset_bounds-backward-index-else-index-lt2
offset_bounds-backward-index-else-index-lt2 c = omega arith

pub offset_bounds-backward-index-else-index-lt2-3 : goal.offset_bounds-backward-index-else-index-lt2-3
offset_bounds-backward-index-else-index-lt2-3 c = omega arith

pub bounds-backward-index : goal.bounds-backward-index
bounds-backward-index c = omega arith

pub overflow_add-backward-else-index-lt2 : goal.overflow_add-backward-else-index-lt2
overflow_add-backward-else-index-lt2 c = omega arith

pub offset_bounds-backward-index-else-index-lt2-2 : goal.offset_bounds-backward-index-else-index-lt2-2
offset_bounds-backward-index-else-index-lt2-2 c = omega arith

pub bounds-pipes-index-else-index-lt2 : goal.bounds-pipes-index-else-index-lt2
bounds-pipes-index-else-index-lt2 c = omega arith

pub overflow_sub-index-else-index-lt2 : goal.overflow_sub-index-else-index-lt2
overflow_sub-index-else-index-lt2 c = omega arith

pub offset_bounds-pipes-index-else-index-lt2-3 : goal.offset_bounds-pipes-index-else-index-lt2-3
offset_bounds-pipes-index-else-index-lt2-3 c = omega arith

pub overflow_add-index-else-index-lt2 : goal.overflow_add-index-else-index-lt2
overflow_add-index-else-index-lt2 c = omega arith

pub overflow_add-index : goal.overflow_add-index
overflow_add-index c = omega arith

pub offset_bounds-pipes-index-else-index-lt2-2 : goal.offset_bounds-pipes-index-else-index-lt2-2
offset_bounds-pipes-index-else-index-lt2-2 c = omega arith

pub offset_bounds-pipes-index-else-index-lt2 : goal.offset_bounds-pipes-index-else-index-lt2
offset_bounds-pipes-index-else-index-lt2 c = omega arith

pub offset_bounds-backward-index : goal.offset_bounds-backward-index
offset_bounds-backward-index c = omega arith

pub pipes-smaller-then-index-lt2 : goal.pipes-smaller-then-index-lt2
pipes-smaller-then-index-lt2 c = omega arith

pub pipes-preserved-then-index-lt2 : goal.pipes-preserved-then-index-lt2
pipes-preserved-then-index-lt2 c = omega arith

pub bounds-pipes-index : goal.bounds-pipes-index
bounds-pipes-index c = omega arith

pub bounds-backward-index-else-index-lt2-2 : goal.bounds-backward-index-else-index-lt2-2
bounds-backward-index-else-index-lt2-2 c = omega (arith, length-set {A = ℕ})

pub bounds-backward-index-else-index-lt2-3 : goal.bounds-backward-index-else-index-lt2-3
bounds-backward-index-else-index-lt2-3 c = omega (arith, length-set {A = ℕ})
