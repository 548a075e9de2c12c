-- What a reader of contracts has to trust: a volume. It has 1 to 16 parts, a number k of samples of
-- a cell, and the cells of one part after another, each part's in raster order, each cell a list of
-- k bytes. (Kwatra et al. 2003 treat pictures and clips alike as volumes.)
use Rattle.std.specs.Prelude.{◌≡◌, ◌≤◌, ◌<◌, ◌+◌, ◌++◌, ℕ, zero, suc, List, [], ◌∷◌, take, drop, length, All, Option, Some, None, option_and_then, slice_get, slice_set, replicate, IsSome}
use Rattle.std.specs.List.{concat}
use Rattle.cells.specs.declared.place.At.{At}
use Rattle.cells.specs.declared.place.Size.{Size}
use Rattle.limits.specs.declared.bounds.TheConstants.{MOST_CHANNELS}
use Rattle.cells.specs.Places.{IsSmall, cell_count, plus, spot}
use Rattle.cells.specs.Boxes.{IsInBox}
use Rattle.cells.specs.Parts.{AreParts, count_from, index_from}

pub record Cells : Type 0 where
  pub size : Size  -- of the first part
  pub more : List Size  -- of the parts after it
  pub k : ℕ
  pub cells : List (List ℕ)

-- a cell of k samples
pub record IsCell (k : ℕ) (cell : List ℕ) : Type 0 where
  pub samples : length cell ≡ k
  pub bytes : All (λ b. b < 256) cell

-- what every volume is
pub record IsVolume (v : Cells) : Type 0 where
  pub small : IsSmall v.size
  pub parts : AreParts v.size v.more
  pub samples : (1 ≤ v.k) × (v.k ≤ MOST_CHANNELS)
  pub count : length v.cells ≡ count_from v.size v.more
  pub cells : All (IsCell v.k) v.cells

-- the first n cells of a list of bytes, k bytes each
abbrev pub cells_of : ℕ → ℕ → List ℕ → List (List ℕ)
cells_of k zero bytes = []
cells_of k (suc n) bytes = take k bytes ∷ cells_of k n (drop k bytes)

-- the volume of these parts whose cells have these bytes, one after another
abbrev pub volume_over : Size → List Size → ℕ → List ℕ → Cells
volume_over size more k bytes = record {
  size = size;
  more = more;
  k = k;
  cells = cells_of k (count_from size more) bytes;
}

-- the volume of one part with these bytes
abbrev pub volume_of : Size → ℕ → List ℕ → Cells
volume_of size k bytes = volume_over size [] k bytes

-- there is one part alone
abbrev pub IsOnePart : Cells → Type 0
IsOnePart v = v.more ≡ []

-- the sizes of all parts
abbrev pub sizes_of : Cells → List Size
sizes_of v = v.size ∷ v.more

-- how many cells there are, of all parts together
abbrev pub count_of : Cells → ℕ
count_of v = count_from v.size v.more

-- the volume with the one part of another after its own
abbrev pub with_part : Cells → Cells → Cells
with_part v part = record v { more = v.more ++ part.size ∷ []; cells = v.cells ++ part.cells }

-- all bytes of a volume, one cell after another
abbrev pub bytes_of : Cells → List ℕ
bytes_of v = concat v.cells

-- the volume of this size with bytes of 0
abbrev pub blank : Size → ℕ → Cells
blank size k = record {
  size = size;
  more = [];
  k = k;
  cells = replicate (cell_count size) (replicate k 0);
}

-- the index of a place among the cells, where it is inside one of the parts
abbrev pub index_of : Cells → At → Option ℕ
index_of v p = index_from v.size v.more p

-- the place is inside one of the parts
abbrev pub IsInsideOf : Cells → At → Type 0
IsInsideOf v p = IsSome (index_of v p)

-- the cell at a place; outside there is none
abbrev pub cell_at : Cells → At → Option (List ℕ)
cell_at v p = option_and_then (slice_get v.cells) (index_of v p)

-- the place has a cell
abbrev pub HasCell : Cells → At → Type 0
HasCell v p = IsSome (cell_at v p)

abbrev pub set_nth : {X : Type 0} → List X → Option ℕ → X → List X
set_nth xs None x = xs
set_nth xs (Some i) x = slice_set xs i x

-- the volume with another cell at one place
abbrev pub put_cell : Cells → At → List ℕ → Cells
put_cell v p cell = record v { cells = set_nth v.cells (index_of v p) cell }

-- the list with others, one for one, from an index on
abbrev pub put_run : {X : Type 0} → List X → Option ℕ → List X → List X
put_run xs None ys = xs
put_run xs (Some i) ys = take i xs ++ ys ++ drop (i + length ys) xs

-- the volume with other cells in a run along X, from a place on
abbrev pub put_row : Cells → At → List (List ℕ) → Cells
put_row v p row = record v { cells = put_run v.cells (index_of v p) row }

abbrev pub run_from : List (List ℕ) → ℕ → Option ℕ → List ℕ
run_from cells w None = []
run_from cells w (Some i) = concat (take w (drop i cells))

-- the bytes of w cells from a place on
abbrev pub row_at : Cells → At → ℕ → List ℕ
row_at v p w = run_from v.cells w (index_of v p)

-- the place is inside, and so are the w places along X from it on
pub record HasRun (v : Cells) (p : At) (w : ℕ) : Type 0 where
  pub first : IsInsideOf v p
  pub each : (j : ℕ) → j < w → IsInsideOf v (plus p (spot j 0 0))

-- each place of a box is inside; so the box lies inside one of the parts
abbrev pub Holds : Cells → At → Size → Type 0
Holds v corner inner =
    (p : At) → IsInBox (record { corner = corner; size = inner }) p → IsInsideOf v p
