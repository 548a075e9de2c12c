-- The overlap errors of the placements of one box, gathered once. A reader has to trust this file:
-- of it, that it serves `Overlaps`. (Own.)
use Rattle.std.specs.Prelude.{◌≡◌}
use Rattle.cells.specs.Boxes.{HasCells, HoldsBox}
use Rattle.map_canvas.specs.declared.canvas.Placement.{Placement}
use Rattle.map_canvas.specs.Canvases.{StandsOver}
use Rattle.map_canvas.specs.Choices.{Fits}
use Rattle.match_error.specs.Errors.{filled_cells}
use Rattle.match_error.specs.Runs.{AreFilledRuns}
use Rattle.patch_place.specs.declared.overlaps.Overlaps.{Overlaps}
use Rattle.search_squares.specs.Eliminations.{AreBoxLevels, AreSampleSums}

-- the filled cells of a box of the canvas are gathered, and counted
pub record AreOverlaps (o : Overlaps) : Type 0 where
  pub over : StandsOver o.canvas.now o.sample.now
  pub cells : HasCells o.rect.size
  pub inside : HoldsBox o.canvas.now.map.size o.rect.corner o.rect.size
  pub sums : AreSampleSums o.sample.now o.sums.now
  pub runs : AreFilledRuns o.canvas.now o.rect o.runs
  pub levels : AreBoxLevels o.canvas.now o.rect o.levels
  pub count : o.count ≡ filled_cells o.canvas.now.map o.rect

-- a placement of that box which fits
pub record IsOverlap (o : Overlaps) (placement : Placement) : Type 0 where
  pub box : placement.rect ≡ o.rect
  pub fits : Fits o.canvas.now.map.size o.sample.now placement
