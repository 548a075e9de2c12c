-- A reader need not trust this file: it says how far a walk over the cells of a box has come.
-- (Own.)
use Rattle.std.specs.Prelude.{◌≡◌, ◌<◌, ◌*◌, ℕ}
use Rattle.limits.specs.declared.bounds.TheConstants.{MOST_CELLS}
use Rattle.cells.specs.declared.place.Size.{Size}
use Rattle.boxes.specs.declared.walk.Walk.{Walk}
use Rattle.boxes.specs.Pairs.{AreCounts, pairs_before}
use Rattle.cells.specs.Places.{raster_index}

-- the counts are those of the cell at an index, which may be the end
pub record IsAtIndex (size : Size) (i x y f : ℕ) : Type 0 where
  pub column : x < size.w
  pub row : y < size.h
  pub index : raster_index size x y f ≡ i

-- a walk has come to the cell at an index, with the number of the pairs before those of the cell
pub record IsWalkAt (size : Size) (i : ℕ) (walk : Walk) : Type 0 where
  pub at : IsAtIndex size i walk.at.x walk.at.y walk.at.f
  pub before : walk.before ≡ pairs_before size i

-- the walk has the number of the pairs before those of its cell
abbrev pub IsNumbered : Size → Walk → Type 0
IsNumbered size walk =
    walk.before ≡ pairs_before size (raster_index size walk.at.x walk.at.y walk.at.f)

-- the walk has come to a cell of the box
pub record IsWalkIn (size : Size) (walk : Walk) : Type 0 where
  pub counts : AreCounts size walk.at.x walk.at.y walk.at.f
  pub before : IsNumbered size walk

-- the most pairs that a small box has: three for each cell
abbrev pub most_pairs : ℕ
most_pairs = 3 * MOST_CELLS
