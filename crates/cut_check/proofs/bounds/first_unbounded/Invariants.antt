use Rattle.std.proofs.Common.{◌*◌}
use Rattle.cells.specs.Distances.{distance}
use Rattle.cut_check.specs.Steps.{EachBefore, HoldsAt}
use Rattle.cut_check.proofs.bounds.first_unbounded.Given as goal

abbrev pub invariant-loop-row : goal.invariant-loop-row
invariant-loop-row l = EachBefore l.cut.placement.rect.size (l.cut.placement.rect.size.w * l.row) (HoldsAt (distance l.sample) l.map l.cut)
