-- The state of walks over the places of a part, for the contracts within the crate; nobody has to
-- trust this file.
use Rattle.std.specs.Prelude.{◌≡◌, ◌+◌, ◌/◌, ◌%◌, ℕ, List, map}
use Rattle.cells.specs.declared.place.Box3.{Box3}
use Rattle.cells.specs.declared.place.Size.{Size}
use Rattle.cells.specs.Places.{places}
use Rattle.map_canvas.specs.declared.canvas.Placement.{Placement}
use Rattle.map_canvas.specs.Choices.{laid_from}
use Rattle.patch_picks.specs.Lists.{from_part}
use Rattle.patch_place.specs.declared.spots.Spot.{Spot}

-- the counts of the place at an index, past so many frames
pub record IsSpotAt (size : Size) (frames i : ℕ) (spot : Spot) : Type 0 where
  pub x : spot.x ≡ i % size.w
  pub y : spot.y ≡ i / size.w % size.h
  pub f : spot.f ≡ frames + i / size.w / size.h

-- the entries of the part after the first n, in which a box has so much room
abbrev pub room_entries : Box3 → List Size → ℕ → Size → List Placement
room_entries rect sizes n free =
    map (from_part sizes (n + 1)) (map (laid_from rect) (places free))
