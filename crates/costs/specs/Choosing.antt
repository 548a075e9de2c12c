-- A reader need not trust this file: it says what a step of the window sum after a choice makes.
-- (Own.)
use Rattle.std.specs.Prelude.{Bool, List, Option}
use Rattle.cells.specs.declared.place.At.{At}
use Rattle.map_canvas.specs.declared.canvas.Placement.{Placement}
use Rattle.map_canvas.specs.Choices.{after_at}
use Rattle.map_canvas.specs.Maps.{SourceMap}
use Rattle.costs.specs.Costs.{map_within}

-- what the box of a placement has after a choice, and nothing outside it
abbrev pub within_after : SourceMap → Placement → List Bool → At → Option At
within_after m placement choice = map_within placement.rect (after_at m placement choice)
