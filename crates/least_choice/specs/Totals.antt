-- To be trusted: the total seam cost of a map, and that a choice over a full map doesn't raise it.
-- (Own.)
use Rattle.std.specs.Prelude.{◌≤◌, ℕ}
use Rattle.cells.specs.Cells.{Cells}
use Rattle.cells.specs.Distances.{distance}
use Rattle.map_canvas.specs.Maps.{IsFull, SourceMap, map_at}
use Rattle.costs.specs.Costs.{total_of}

-- the total seam cost of a map
abbrev pub map_total : Cells → SourceMap → ℕ
map_total sample m = total_of (distance sample) m.size (map_at m)

-- a map that was full has no greater total than before
abbrev pub KeepsTotal : Cells → SourceMap → SourceMap → Type 0
KeepsTotal sample before after = IsFull before → map_total sample after ≤ map_total sample before
