-- A reader need not trust this file: it says which cells of a box can't be kept, whatever is filled.
-- (Own.)
use Rattle.std.specs.Prelude.{◌≡◌, ◌<◌, ◌≤◌, ◌⊎◌, ◌+◌, ◌+ℤ◌, ◌≤ℤ◌, ℕ, ℤ, pos}
use Rattle.cells.specs.declared.place.Box3.{Box3}
use Rattle.cells.specs.declared.place.Size.{Size}

-- both neighbours along an axis of n cells, of the cell so many cells from the corner of a run, are
-- cells of the run or off the axis
pub record IsEnclosedAlong (n : ℕ) (corner : ℤ) (len count : ℕ) : Type 0 where
  pub back : (1 ≤ count) ⊎ (corner +ℤ pos count ≡ pos 0)
  pub ahead : (count + 1 < len) ⊎ (pos n ≤ℤ (corner +ℤ pos (count + 1)))

-- all neighbours of the cell of a box are cells of the box or outside the output
pub record IsEnclosed (output : Size) (rect : Box3) (x y f : ℕ) : Type 0 where
  pub on_x : IsEnclosedAlong output.w rect.corner.x rect.size.w x
  pub on_y : IsEnclosedAlong output.h rect.corner.y rect.size.h y
  pub on_f : IsEnclosedAlong output.f rect.corner.f rect.size.f f
