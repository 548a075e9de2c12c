-- A reader has to trust this file. The cells of a box by their counts from its corner, and its
-- pairs: two neighbours that are both in it, the second one step on from the first along an axis.
-- Pairs are counted in the raster order of the first cell, and for one first cell along X, then Y,
-- then F. (Own.)
use Rattle.std.specs.Prelude.{◌≡◌, ◌<◌, ℕ, ◌+◌, ◌/◌, ◌%◌, Bool, true, false, nat_lt, is_some}
use Rattle.cells.specs.declared.place.At.{At}
use Rattle.cells.specs.declared.place.Size.{Size}
use Rattle.cells.specs.declared.place.Axis.{Axis}
use Rattle.cells.specs.declared.place.Axis.TheVariants.{X, Y, F}
use Rattle.cells.specs.declared.place.Box3.{Box3}
use Rattle.cells.specs.Places.{cell_count, index_in, minus, raster_index}
use Rattle.boxes.specs.Sums.{sum_to}

-- whether the place is one of the box's
abbrev pub in_box : Box3 → At → Bool
in_box rect p = is_some (index_in rect.size (minus p rect.corner))

-- the counts are those of a cell of the size
pub record AreCounts (size : Size) (x y f : ℕ) : Type 0 where
  pub column : x < size.w
  pub row : y < size.h
  pub frame : f < size.f

-- whether the box has a next cell along an axis
abbrev pub has_next : Size → Axis → ℕ → ℕ → ℕ → Bool
has_next size X x y f = nat_lt (x + 1) size.w
has_next size Y x y f = nat_lt (y + 1) size.h
has_next size F x y f = nat_lt (f + 1) size.f

-- a pair of the box: a cell, and the next one along an axis
pub record IsPair (size : Size) (axis : Axis) (x y f : ℕ) : Type 0 where
  pub counts : AreCounts size x y f
  pub next : has_next size axis x y f ≡ true

abbrev pub one_if : Bool → ℕ
one_if true = 1
one_if false = 0

-- how many pairs a cell is the first of
abbrev pub pairs_from : Size → ℕ → ℕ → ℕ → ℕ
pairs_from size x y f =
    one_if (has_next size X x y f) + one_if (has_next size Y x y f) + one_if (has_next size F x y f)

-- what a function of counts says of the cell at an index in raster order
abbrev pub at_index : {A : Type 0} → Size → (ℕ → ℕ → ℕ → A) → ℕ → A
at_index size g i = g (i % size.w) (i / size.w % size.h) (i / size.w / size.h)

-- how many pairs the cells before an index are the first of
abbrev pub pairs_before : Size → ℕ → ℕ
pairs_before size i = sum_to i (at_index size (pairs_from size))

-- how many pairs there are
abbrev pub pair_count : Size → ℕ
pair_count size = pairs_before size (cell_count size)

-- the number of the pair of a cell and the next one along an axis, from 0
abbrev pub pair_number : Size → Axis → ℕ → ℕ → ℕ → ℕ
pair_number size X x y f = pairs_before size (raster_index size x y f)
pair_number size Y x y f =
    pairs_before size (raster_index size x y f) + one_if (has_next size X x y f)
pair_number size F x y f =
    pairs_before size (raster_index size x y f)
    + one_if (has_next size X x y f) + one_if (has_next size Y x y f)
