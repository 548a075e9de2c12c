use Rattle.std.proofs.Common.{◌≡◌, ℕ, ◌<◌}
use Rattle.cut_check.specs.Steps.{IsAt}
use Rattle.std.specs.Prelude.{None, true, slice_index_or, false}
use Rattle.map_canvas.specs.Choices.{box_cell}
use Rattle.map_canvas.specs.Maps.{map_at}
use Rattle.cut_check.proofs.rules.first_unfilled.Given as goal

abbrev pub invariant-loop-i : goal.invariant-loop-i
invariant-loop-i l = record {
  at : IsAt l.cut.placement.rect.size l.i l.at;
  before : (k : ℕ) → k < l.i → map_at l.map (box_cell l.cut.placement k) ≡ None → slice_index_or l.cut.choice k false ≡ true;
}
