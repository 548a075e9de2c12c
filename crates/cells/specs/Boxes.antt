-- What a reader has to trust: boxes inside a size. (Own.)
use Rattle.std.specs.Prelude.{◌≤◌, ◌⊎◌, ◌∷◌, ℕ, ℤ, pos, ◌+ℤ◌, ◌≤ℤ◌, List, []}
use Rattle.cells.specs.declared.place.At.{At}
use Rattle.cells.specs.declared.place.Box3.{Box3}
use Rattle.cells.specs.declared.place.Size.{Size}
use Rattle.cells.specs.Places.{IsInside, minus, plus, spot}

-- a run of cells along one axis lies within it
pub record AxisHolds (n : ℕ) (corner : ℤ) (len : ℕ) : Type 0 where
  pub from : pos 0 ≤ℤ corner
  pub to : (corner +ℤ pos len) ≤ℤ pos n

-- the box lies inside on each axis, and so does each of its places
pub record HoldsBox (size : Size) (corner : At) (inner : Size) : Type 0 where
  pub x : AxisHolds size.w corner.x inner.w
  pub y : AxisHolds size.h corner.y inner.h
  pub f : AxisHolds size.f corner.f inner.f

-- the box has a cell
pub record HasCells (size : Size) : Type 0 where
  pub w : 1 ≤ size.w
  pub h : 1 ≤ size.h
  pub f : 1 ≤ size.f

-- the cell of a box at three counts from its corner
abbrev pub cell_in : Box3 → ℕ → ℕ → ℕ → At
cell_in rect x y f = plus rect.corner (spot x y f)

-- the place is one of the box's: from its corner on, below its size on each axis
abbrev pub IsInBox : Box3 → At → Type 0
IsInBox rect p = IsInside rect.size (minus p rect.corner)

-- each place of the box is inside the size, as each of a box without cells is
abbrev pub HoldsEach : Size → Box3 → Type 0
HoldsEach size rect = (p : At) → IsInBox rect p → IsInside size p

-- one of the boxes has the place
abbrev pub IsInOne : List Box3 → At → Type 0
IsInOne [] p = ⊥
IsInOne (rect ∷ rects) p = IsInBox rect p ⊎ IsInOne rects p
