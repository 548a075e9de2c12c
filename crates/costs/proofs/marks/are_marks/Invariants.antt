use Rattle.std.proofs.Common.{◌≡◌, ℕ, ◌<◌, get_or, true, false}
use Rattle.map_canvas.specs.Choices.{box_cell}
use Rattle.map_canvas.specs.Maps.{IsFilled}
use Rattle.boxes.specs.Walks.{IsAtIndex}
use Rattle.costs.proofs.marks.are_marks.Given as goal

abbrev pub invariant-loop-i : goal.invariant-loop-i
invariant-loop-i l = record {
  at : IsAtIndex l.placement.rect.size l.i l.at.x l.at.y l.at.f;
  each : (k : ℕ) → k < l.i → get_or l.marks k false ≡ true → IsFilled l.canvas.map (box_cell l.placement k);
}
