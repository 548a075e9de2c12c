-- A sample with a target as its second part, for the contracts of transfer; of it a reader has to
-- trust that it serves the search. (Own.)
use Rattle.std.specs.Prelude.{◌≡◌, ◌<◌, ℕ, [], ◌∷◌, Some}
use Rattle.cells.specs.declared.place.At.{At}
use Rattle.cells.specs.declared.place.Box3.{Box3}
use Rattle.cells.specs.Boxes.{cell_in}
use Rattle.cells.specs.Cells.{Cells, IsOnePart}
use Rattle.cells.specs.Places.{spot}
use Rattle.cells.specs.SizeLists.{stock_place}
use Rattle.map_canvas.specs.Canvases.{CanvasState, StandsOver}
use Rattle.map_canvas.specs.Maps.{map_at}

-- a sample and a target can be put together: both have one part, and cells of as many samples
pub record CanBeJoined (sample target : Cells) : Type 0 where
  pub sample_part : IsOnePart sample
  pub target_part : IsOnePart target
  pub samples : target.k ≡ sample.k

-- where the second part has a place of the target
abbrev pub target_place : Cells → Cells → At → At
target_place sample target p = stock_place (sample.size ∷ target.size ∷ []) 2 p

-- a box of that size at the first cell
abbrev pub at_first : Box3 → Box3
at_first rect = record { corner = spot 0 0 0; size = rect.size }

-- a full canvas of a box's size, whose cells have as sources those of the target in the box
pub record IsTargetBox (sample target joined : Cells) (rect : Box3) (canvas : CanvasState)
    : Type 0 where
  pub size : canvas.map.size ≡ rect.size
  pub over : StandsOver canvas joined
  pub sources : (x y f : ℕ) → x < rect.size.w → y < rect.size.h → f < rect.size.f
      → map_at canvas.map (spot x y f) ≡ Some (target_place sample target (cell_in rect x y f))
