use Rattle.std.proofs.Common.{◌≡◌, ◌≤◌, ◌-◌, length, take}
use Rattle.map_canvas.specs.Canvases.{IsCanvas, StandsOver, filled_marks}
use Rattle.map_canvas.specs.Choices.{IsAfter}
use Rattle.map_canvas.proofs.canvas.fill_choice.Given as goal

abbrev pub invariant-runs : goal.invariant-runs
invariant-runs l = record {
  reached : l.i ≤ length l.choice;
  canvas : IsCanvas (record { map = l.map; picture = l.picture });
  stands : StandsOver (record { map = l.map; picture = l.picture }) l.sample;
  marks : l.marks ≡ filled_marks l.map l.picture.k;
  after : IsAfter l.fn.map l.placement (take l.i l.choice) l.map;
}

abbrev pub decreases-runs : goal.decreases-runs
decreases-runs l = length l.choice - l.i
