-- What a reader has to trust: places, sizes and raster order. x runs fastest, then y, then f. (The
-- order of rows and columns is Netpbm's; frames follow one another as in a clip.)
use Rattle.std.specs.Prelude.{◌≤◌, ◌≤ℤ◌, ◌*◌, ◌+◌, ◌/◌, ◌%◌, ℕ, ℤ, pos, negsuc, ◌+ℤ◌, ◌-ℤ◌, List, map, Option, Some, None, nat_lt, if◌then◌else◌, IsSome, FitsSigned}
use Rattle.std.specs.List.{range_with_len}
use Rattle.std.specs.Int.{w32}
use Rattle.limits.specs.declared.bounds.TheConstants.{GREATEST_AXIS, MOST_CELLS}
use Rattle.cells.specs.declared.place.At.{At}
use Rattle.cells.specs.declared.place.Size.{Size}

-- how many cells a size has
abbrev pub cell_count : Size → ℕ
cell_count size = size.w * (size.h * size.f)

-- axes from 1 to the greatest
pub record HasAxes (size : Size) : Type 0 where
  pub w : (1 ≤ size.w) × (size.w ≤ GREATEST_AXIS)
  pub h : (1 ≤ size.h) × (size.h ≤ GREATEST_AXIS)
  pub f : (1 ≤ size.f) × (size.f ≤ GREATEST_AXIS)

-- such axes, and no more cells than a volume may have
pub record IsSmall (size : Size) : Type 0 where
  pub axes : HasAxes size
  pub cells : cell_count size ≤ MOST_CELLS

-- the coordinate, where it is at least 0 and below the axis
abbrev pub on_axis : ℕ → ℤ → Option ℕ
on_axis n (pos c) = if nat_lt c n then Some c else None
on_axis n (negsuc c) = None

-- a coordinate of a cell of some size, or the next one along the axis
abbrev pub IsNearAxis : ℤ → Type 0
IsNearAxis z = (pos 0 ≤ℤ z) × (z ≤ℤ pos GREATEST_AXIS)

-- the index of three counts in raster order
abbrev pub raster_index : Size → ℕ → ℕ → ℕ → ℕ
raster_index size x y f = x + size.w * (y + size.h * f)

abbrev pub index_on_axes : Size → Option ℕ → Option ℕ → Option ℕ → Option ℕ
index_on_axes size (Some x) (Some y) (Some f) = Some (raster_index size x y f)
index_on_axes size x y f = None

-- the index of a place in raster order, where it is inside; nothing outside
abbrev pub index_in : Size → At → Option ℕ
index_in size p = index_on_axes size (on_axis size.w p.x) (on_axis size.h p.y) (on_axis size.f p.f)

-- the place is at least 0 and below the axis on each axis
abbrev pub IsInside : Size → At → Type 0
IsInside size p = IsSome (index_in size p)

-- a place as far from another as a third is from the first cell
abbrev pub plus : At → At → At
plus p q = record { x = p.x +ℤ q.x; y = p.y +ℤ q.y; f = p.f +ℤ q.f }

abbrev pub minus : At → At → At
minus p q = record { x = p.x -ℤ q.x; y = p.y -ℤ q.y; f = p.f -ℤ q.f }

-- the sums of the coordinates are numbers of 32 bits
pub record SumFits (p q : At) : Type 0 where
  pub x : FitsSigned w32 (p.x +ℤ q.x)
  pub y : FitsSigned w32 (p.y +ℤ q.y)
  pub f : FitsSigned w32 (p.f +ℤ q.f)

-- the differences of the coordinates are
pub record DifferenceFits (p q : At) : Type 0 where
  pub x : FitsSigned w32 (p.x -ℤ q.x)
  pub y : FitsSigned w32 (p.y -ℤ q.y)
  pub f : FitsSigned w32 (p.f -ℤ q.f)

-- the place of three counts
abbrev pub spot : ℕ → ℕ → ℕ → At
spot x y f = record { x = pos x; y = pos y; f = pos f }

-- the place at an index in raster order
abbrev pub place_of : Size → ℕ → At
place_of size i = spot (i % size.w) (i / size.w % size.h) (i / size.w / size.h)

-- all places of a size, in raster order
abbrev pub places : Size → List At
places size = map (place_of size) (range_with_len 0 (cell_count size))
