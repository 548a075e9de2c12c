use Rattle.std.proofs.Common.{◌≡◌, ℕ, ◌*◌, ◌<◌, ◌≤◌}
use Rattle.std.specs.Prelude.{slice_index_or, false}
use Rattle.map_canvas.specs.Choices.{box_cell}
use Rattle.costs.specs.Lawful.{StaysOld}
use Rattle.cut_check.proofs.rules.first_new_of_row.Given as goal

abbrev pub invariant-loop-i : goal.invariant-loop-i
invariant-loop-i l = record {
  from : l.cut.placement.rect.size.w * l.row ≤ l.i;
  before : (k : ℕ) → k < l.i → StaysOld l.canvas.map l.cut.placement l.held (box_cell l.cut.placement k) → slice_index_or l.cut.choice k false ≡ false;
}
