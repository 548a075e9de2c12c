use Rattle.std.proofs.Common.{◌≡◌, ℕ, ◌+◌, ◌*◌, ◌<◌, ◌≤◌, neg_ℤ, pos, ◌≤ℤ◌, ℤ}
use Rattle.limits.specs.declared.bounds.TheConstants.{MOST_CELLS}
use Rattle.cells.specs.Cells.{Cells}
use Rattle.boxes.specs.Sums.{signed_sum_to}
use Rattle.boxes.specs.Pairs.{at_index, pairs_before}
use Rattle.cut_check.specs.Records.{IsBalanced, setting}
use Rattle.cut_check.specs.Steps.{ArePartsOfValue, most_leaving}
use Rattle.cut_check.proofs.balance.add_row.Given as goal

abbrev pub invariant-loop-i : goal.invariant-loop-i
invariant-loop-i l = record {
  from : l.cut.placement.rect.size.w * l.row ≤ l.i;
  few : l.cut.placement.rect.size.w * l.row + l.cut.placement.rect.size.w ≤ MOST_CELLS;
  number : l.before ≡ pairs_before l.cut.placement.rect.size l.i;
  balanced : (sample : Cells) (k : ℕ) → k < l.i → IsBalanced (setting l.canvas.map sample l.held) l.cut k;
  sum : (sample : Cells) (part : ℕ → ℕ → ℕ → ℤ) → ArePartsOfValue (setting l.canvas.map sample l.held) l.cut part
      → l.sum ≡ signed_sum_to l.i (at_index l.cut.placement.rect.size part);
  low : neg_ℤ (pos (most_leaving * l.i)) ≤ℤ l.sum;
  high : l.sum ≤ℤ pos (most_leaving * l.i);
}
