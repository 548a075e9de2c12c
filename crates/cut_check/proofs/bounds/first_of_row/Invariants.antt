use Rattle.std.proofs.Common.{◌≡◌, ◌*◌, ◌≤◌}
use Rattle.cells.specs.Distances.{distance}
use Rattle.boxes.specs.Pairs.{pairs_before}
use Rattle.cut_check.specs.Steps.{EachBefore, HoldsAt}
use Rattle.cut_check.proofs.bounds.first_of_row.Given as goal

abbrev pub invariant-loop-i : goal.invariant-loop-i
invariant-loop-i l = record {
  from : l.cut.placement.rect.size.w * l.row ≤ l.i;
  number : l.before ≡ pairs_before l.cut.placement.rect.size l.i;
  before : EachBefore l.cut.placement.rect.size l.i (HoldsAt (distance l.sample) l.map l.cut);
}
