-- To be trusted: placements that fit, and cover the cell that they are made for. (Own.)
use Rattle.std.specs.Prelude.{◌≤◌, ℕ, Some, ◌≡◌}
use Rattle.cells.specs.declared.place.At.{At}
use Rattle.cells.specs.declared.place.Size.{Size}
use Rattle.cells.specs.Places.{IsInside, minus}
use Rattle.cells.specs.Cells.{Cells, sizes_of}
use Rattle.cells.specs.SizeLists.{size_of_part}
use Rattle.boxes.specs.Rooms.{HasRoom}
use Rattle.map_canvas.specs.declared.canvas.Placement.{Placement}
use Rattle.map_canvas.specs.Choices.{Fits}
use Rattle.patch_picks.specs.declared.mode.Mode.{Mode}
use Rattle.patch_picks.specs.declared.mode.Mode.TheVariants.{Grid, Random, Whole, Sub}

-- the placement lies in the output and takes from the sample, and its box has q
pub record FitsAndCovers (output : Size) (sample : Cells) (q : At)
    (placement : Placement) : Type 0 where
  pub fits : Fits output sample placement
  pub covers : IsInside placement.rect.size (minus q placement.rect.corner)

-- the patches that the mode takes have a cell
abbrev pub HasPatch : Mode → Type 0
HasPatch (Grid overlap) = Unit {0}
HasPatch Random = Unit {0}
HasPatch (Whole tol) = Unit {0}
HasPatch (Sub side overlap tol) = 1 ≤ side

-- a box of this size has a place in each part of a sample
abbrev pub HasRoomInEach : Cells → Size → Type 0
HasRoomInEach sample inner =
    (number : ℕ) (part : Size) → size_of_part (sizes_of sample) number ≡ Some part
    → HasRoom part inner
