-- What a reader has to trust: a canvas, which is a map beside its picture. (Own.)
use Rattle.std.specs.Prelude.{◌≡◌, ◌⊎◌, ℕ, List, [], Option, Some, None, is_none, map, replicate}
use Rattle.std.specs.List.{position_or_len}
use Rattle.cells.specs.declared.place.At.{At}
use Rattle.cells.specs.declared.place.Axis.{Axis}
use Rattle.cells.specs.declared.place.Box3.{Box3}
use Rattle.cells.specs.declared.place.Size.{Size}
use Rattle.cells.specs.Places.{plus, minus}
use Rattle.cells.specs.Boxes.{IsInBox}
use Rattle.cells.specs.Neighbours.{AreNeighbours, unit_step}
use Rattle.cells.specs.Cells.{Cells, HasCell, IsOnePart, IsVolume, blank, cell_at}
use Rattle.map_canvas.specs.Maps.{SourceMap, IsFilled, IsMap, empty_map, map_at}

pub record CanvasState : Type 0 where
  pub map : SourceMap
  pub picture : Cells

-- the canvas with no cell filled, for cells of k samples
abbrev pub empty_canvas : Size → ℕ → CanvasState
empty_canvas size k = record { map = empty_map size; picture = blank size k }

-- what every canvas is
pub record IsCanvas (canvas : CanvasState) : Type 0 where
  pub map : IsMap canvas.map
  pub picture : IsVolume canvas.picture
  pub size : canvas.picture.size ≡ canvas.map.size
  pub part : IsOnePart canvas.picture

-- the canvas stands over the sample: cells of both have as many samples, and each filled cell has
-- the bytes of the sample's cell that its map names
pub record StandsOver (canvas : CanvasState) (sample : Cells) : Type 0 where
  pub samples : canvas.picture.k ≡ sample.k
  pub over : (p from : At) → map_at canvas.map p ≡ Some from → HasCell sample from
  pub bytes : (p from : At) → map_at canvas.map p ≡ Some from
      → cell_at canvas.picture p ≡ cell_at sample from

-- how many cells, from the first in raster order on, are filled
abbrev pub IsFilledPrefix : SourceMap → ℕ → Type 0
IsFilledPrefix m reached = reached ≡ position_or_len is_none m.sources

-- each filled cell of the picture has the bytes of the sample's cell that the map names
abbrev pub IsRenderedAt : SourceMap → Cells → Cells → At → Type 0
IsRenderedAt m picture sample p =
    (from : At) → map_at m p ≡ Some from
    → HasCell sample from × (cell_at picture p ≡ cell_at sample from)

abbrev pub IsRendered : SourceMap → Cells → Cells → Type 0
IsRendered m picture sample = (p : At) → IsRenderedAt m picture sample p

-- a place that is filled and outside a box
abbrev pub IsFilledOutside : SourceMap → Box3 → At → Type 0
IsFilledOutside m rect p = IsFilled m p × (IsInBox rect p → ⊥)

-- one of the two neighbours along an axis is so
abbrev pub MeetsAlong : SourceMap → Box3 → At → Axis → Type 0
MeetsAlong m rect p axis =
    IsFilledOutside m rect (plus p (unit_step axis))
    ⊎ IsFilledOutside m rect (minus p (unit_step axis))

-- a neighbour is so
pub record MeetsOutside (m : SourceMap) (rect : Box3) (p : At) : Type 0 where
  pub other : At
  pub beside : AreNeighbours p other
  pub outside : IsFilledOutside m rect other

-- the cell of the box is filled and has such a neighbour (Kwatra et al. 2003 hold the old pixels at
-- a patch's border so)
pub record IsKept (m : SourceMap) (rect : Box3) (p : At) : Type 0 where
  pub inside : IsInBox rect p
  pub filled : IsFilled m p
  pub meets : MeetsOutside m rect p

-- 1 for each of the k samples of a filled cell, and 0 for each of an unfilled one
abbrev pub mark_of : ℕ → Option At → List ℕ
mark_of k None = replicate k 0
mark_of k (Some from) = replicate k 1

-- the volume of the marks of all cells
abbrev pub filled_marks : SourceMap → ℕ → Cells
filled_marks m k = record { size = m.size; more = []; k = k; cells = map (mark_of k) m.sources }
