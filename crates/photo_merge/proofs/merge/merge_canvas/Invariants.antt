use Rattle.std.proofs.Common.{◌≡◌, ◌+◌, List, length}
use Rattle.map_canvas.specs.Canvases.{IsCanvas, StandsOver}
use Rattle.map_canvas.specs.Maps.{IsFull, SourceMap}
use Rattle.photo_merge.specs.Merges.{MapsLead}
use Rattle.photo_merge.proofs.merge.merge_canvas.Given as goal

-- a list of as many maps as pictures are laid leads to the canvas
abbrev pub invariant-loop-number : goal.invariant-loop-number
invariant-loop-number l = record {
  led : (maps : List SourceMap) × (l.number ≡ length maps + 2) × MapsLead l.pictures l.marks maps l.canvas.map;
  full : IsFull l.canvas.map;
  stands : StandsOver l.canvas l.pictures;
  canvas : IsCanvas l.canvas;
}
