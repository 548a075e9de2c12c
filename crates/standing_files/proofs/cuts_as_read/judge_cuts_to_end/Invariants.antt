use Rattle.std.proofs.Common.{◌≤◌, ◌+◌, ◌*◌}
use Rattle.limits.specs.declared.bounds.TheConstants.{MOST_BOX_CELLS}
use Rattle.shelf_traits.specs.Files.{OnlyReadsFile}
use Rattle.map_canvas.specs.Canvases.{IsCanvas, StandsOver}
use Rattle.standing_files.proofs.Finding.{CutsSoFar}
use Rattle.standing_files.proofs.cuts_as_read.judge_cuts_to_end.Given as goal

abbrev pub invariant-loop-i : goal.invariant-loop-i
invariant-loop-i g l = record {
  at : l.file.at ≤ l.initial.file.at + 34 * l.cells;
  few : l.cells ≤ MOST_BOX_CELLS;
  so_far : CutsSoFar l.name l.initial.file.at (g.S.Shelf.state l.shelf) l.file l.head.version l.head.samples l.i l.cells l.samples l.fn.canvas.map.size l.fn.before l.canvas.map l.verdict;
  over : StandsOver l.canvas l.samples;
  canvas : IsCanvas l.canvas;
  reads : OnlyReadsFile l.name (g.S.Shelf.state l.initial.shelf) (g.S.Shelf.state l.shelf);
}
