-- The state of the gathering of blocks, which no public contract names. A cell of the box goes by
-- its index in raster order, and a place of the box by how far it is from the corner. (Own.)
use Rattle.std.specs.Prelude.{◌≡◌, ◌≤◌, ◌<◌, ◌+◌, ◌*◌, ◌/◌, ◌%◌, ℕ, Bool, true, false, if◌then◌else◌, List, All, length, slice_index_or}
use Rattle.std.specs.List.{sum_by}
use Rattle.cells.specs.declared.place.At.{At}
use Rattle.cells.specs.declared.place.Box3.{Box3}
use Rattle.cells.specs.declared.place.Size.{Size}
use Rattle.cells.specs.Places.{cell_count, place_of, plus, spot}
use Rattle.limits.specs.declared.bounds.TheConstants.{GREATEST_AXIS}
use Rattle.boxes.specs.Sums.{sum_to}
use Rattle.map_canvas.specs.Canvases.{CanvasState}
use Rattle.map_canvas.specs.Maps.{SourceMap, IsFilled}
use Rattle.search_squares.specs.declared.blocks.Block.{Block}
use Rattle.search_squares.specs.Blocks.{HasEntry, HasSumOf, IsBlockIn}

-- a cell may still be taken
abbrev pub IsUntaken : List Bool → ℕ → Type 0
IsUntaken free i = slice_index_or free i false ≡ true

-- so may n cells from one on
abbrev pub AreFree : List Bool → ℕ → ℕ → Type 0
AreFree free start n = (i : ℕ) → i < n → IsUntaken free (start + i)

-- and those of a block from a cell on, in rows of w cells
abbrev pub IsFreeBlock : List Bool → ℕ → ℕ → ℕ → Type 0
IsFreeBlock free start w side = (j : ℕ) → j < side → AreFree free (start + w * j) side

-- its rows are among the first n cells
abbrev pub HasRows : ℕ → ℕ → ℕ → ℕ → Type 0
HasRows n start w side = (j : ℕ) → j < side → start + w * j + side ≤ n

-- numbers of the cells, added up over those that are free
abbrev pub free_sum : List Bool → (ℕ → ℕ) → ℕ
free_sum free g = sum_to (length free) (λ i. if slice_index_or free i false then g i else 0)

-- over n cells from one on
abbrev pub sum_along : ℕ → ℕ → (ℕ → ℕ) → ℕ
sum_along start n g = sum_to n (λ i. g (start + i))

-- over the first n rows of a block
abbrev pub rows_sum : ℕ → ℕ → ℕ → ℕ → (ℕ → ℕ) → ℕ
rows_sum start w side n g = sum_to n (λ j. sum_along (start + w * j) side g)

-- cells before an end are taken: the sum over the free ones is less by that over them, whatever the
-- numbers
pub record IsTaken (end : ℕ) (part : (ℕ → ℕ) → ℕ) (was now : List Bool) : Type 0 where
  pub long : length now ≡ length was
  pub after : (i : ℕ) → end ≤ i → slice_index_or now i false ≡ slice_index_or was i false
  pub fewer : (i : ℕ) → IsUntaken now i → IsUntaken was i
  pub sums : (g : ℕ → ℕ) → free_sum now g + part g ≡ free_sum was g

-- a block from a cell on lies in the cell's frame
pub record HasBlockRoom (size : Size) (i side : ℕ) : Type 0 where
  pub columns : i % size.w + side ≤ size.w
  pub rows : i / size.w % size.h + side ≤ size.h

-- the rows and columns of a size are no longer than the greatest axis
abbrev pub HasShortRows : Size → Type 0
HasShortRows size = (size.w ≤ GREATEST_AXIS) × (size.h ≤ GREATEST_AXIS)

-- a step goes so far at most along each axis, and not back
pub record IsCellStep (step : At) : Type 0 where
  pub x : ℕ
  pub y : ℕ
  pub f : ℕ
  pub is : step ≡ spot x y f
  pub short : (x < GREATEST_AXIS) × (y < GREATEST_AXIS) × (f < GREATEST_AXIS)

-- each free cell of the box is filled
abbrev pub MarkFilled : SourceMap → Box3 → List Bool → Type 0
MarkFilled m rect free =
    (i : ℕ) → IsUntaken free i → IsFilled m (plus rect.corner (place_of rect.size i))

-- each cell of a block is
abbrev pub IsBlockFilled : SourceMap → Box3 → ℕ → Block → Type 0
IsBlockFilled m rect side block =
    (x y : ℕ) → x < side → y < side → IsFilled m (plus rect.corner (plus block.step (spot x y 0)))

-- numbers of the places, added up over a block, and over the box
abbrev pub place_sum : ℕ → (At → ℕ) → Block → ℕ
place_sum side g block = sum_to side (λ y. sum_to side (λ x. g (plus block.step (spot x y 0))))

abbrev pub box_sum : Size → (At → ℕ) → ℕ
box_sum size g = sum_to (cell_count size) (λ i. g (place_of size i))

-- blocks of filled cells, none of them free and none in two blocks: the sums over all blocks and
-- over the free cells are within the sum over the box, whatever the numbers
pub record AreGathered (canvas : CanvasState) (rect : Box3) (side : ℕ) (size : Size)
    (blocks : List Block) (free : List Bool) : Type 0 where
  pub long : length free ≡ cell_count rect.size
  pub rest : MarkFilled canvas.map rect free
  pub inside : All (IsBlockIn rect side) blocks
  pub entries : All (HasEntry size) blocks
  pub sums : All (HasSumOf canvas rect side) blocks
  pub filled : All (IsBlockFilled canvas.map rect side) blocks
  pub disjoint : (g : At → ℕ) → sum_by (place_sum side g) blocks
      + free_sum free (λ i. g (place_of rect.size i)) ≤ box_sum rect.size g

-- blocks of one cell each, of some of the first n cells of the box that are marked: the cells after
-- those are still free
pub record AreSingles (canvas : CanvasState) (rect : Box3) (size : Size) (filled : List Bool) (n : ℕ)
    (blocks : List Block) : Type 0 where
  pub free : List Bool
  pub later : (i : ℕ) → n ≤ i → slice_index_or free i false ≡ slice_index_or filled i false
  pub gathered : AreGathered canvas rect 1 size blocks free
