-- The sums of all blocks of a box of the sample, for the contracts of this crate; a reader has to
-- trust `AreBlockSums` alone, and of it only that it serves `BlockSums`. (Own.)
use Rattle.std.specs.Prelude.{◌≡◌, ◌≤◌, ◌<◌, ◌+◌, ◌*◌, ◌/◌, ◌%◌, ◌^◌, ℕ, List, slice_index, length, sum}
use Rattle.cells.specs.declared.place.Box3.{Box3}
use Rattle.cells.specs.declared.place.Size.{Size}
use Rattle.cells.specs.Cells.{Cells, Holds, row_at}
use Rattle.cells.specs.Places.{cell_count, plus, raster_index, spot}
use Rattle.boxes.specs.Sums.{sum_to}
use Rattle.search_squares.specs.declared.sums.BlockSums.{BlockSums}
use Rattle.search_squares.specs.declared.sums.TheConstants.{LANES}
use Rattle.search_squares.specs.Blocks.{block_bytes, block_sum}

-- an entry is the sum of the bytes of a cell of a box
pub record IsCellSum (sample : Cells) (rect : Box3) (y f x entry : ℕ) : Type 0 where
  pub is : entry ≡ sum (row_at sample (plus rect.corner (spot x y f)) 1)
  pub small : entry ≤ 255 * sample.k

-- so many entries come after others, and of each a fact holds
pub record ArePut (Is : ℕ → ℕ → Type 0) (count : ℕ) (was now : List ℕ) : Type 0 where
  pub long : length now ≡ length was + count
  pub kept : (i : ℕ) → i < length was → slice_index now i ≡ slice_index was i
  pub put : (x : ℕ) → x < count → Is x (slice_index now (length was + x))

-- the entries of so many rows of a box, counted on through all frames, and of each a fact holds
pub record AreRows (Is : ℕ → ℕ → ℕ → ℕ → Type 0) (size : Size) (rows : ℕ) (entries : List ℕ)
    : Type 0 where
  pub long : length entries ≡ size.w * rows
  pub each : (x row : ℕ) → x < size.w → row < rows
      → Is (row % size.h) (row / size.h) x (slice_index entries (size.w * row + x))

-- an entry for each place of a box, the sum of the bytes of its cell, and enough of them to read a run
-- at the last one
pub record AreCellSums (sample : Cells) (rect : Box3) (entries : List ℕ) : Type 0 where
  pub long : length entries ≡ cell_count rect.size + LANES
  pub each : (x y f : ℕ) → x < rect.size.w → y < rect.size.h → f < rect.size.f
      → slice_index entries (raster_index rect.size x y f)
      ≡ sum (row_at sample (plus rect.corner (spot x y f)) 1)
  pub small : (i : ℕ) → slice_index entries i ≤ 255 * sample.k

-- the sum of n entries, from one on, each so many further than the one before
abbrev pub stepped_sum : List ℕ → ℕ → ℕ → ℕ → ℕ
stepped_sum entries step n i = sum_to n (λ j. slice_index entries (i + step * j))

-- the entries before an end are made such sums, and the others stay
pub record AreAddedTo (step n end : ℕ) (was now : List ℕ) : Type 0 where
  pub long : length now ≡ length was
  pub sums : (i : ℕ) → i < end → slice_index now i ≡ stepped_sum was step n i
  pub rest : (i : ℕ) → end ≤ i → slice_index now i ≡ slice_index was i

-- so are those where a run of entries can be read from the last one of the sum on, and none is more than
-- a sum of n can be
pub record AreAdded (step n : ℕ) (was now : List ℕ) : Type 0 where
  pub long : length now ≡ length was
  pub sums : (i last : ℕ) → last + 1 ≡ n → i + step * last + LANES ≤ length was
      → slice_index now i ≡ stepped_sum was step n i
  pub small : (most : ℕ) → ((i : ℕ) → slice_index was i ≤ most)
      → (i : ℕ) → slice_index now i ≤ n * most

-- an entry for each place of a box, and enough of them to read a run at the last one: the sum of the
-- block from there on, where the block lies in the box
pub record AreBlockEntries (sample : Cells) (rect : Box3) (side : ℕ) (entries : List ℕ) : Type 0 where
  pub long : length entries ≡ cell_count rect.size + LANES
  pub each : (x y f : ℕ) → x + side ≤ rect.size.w → y + side ≤ rect.size.h → f < rect.size.f
      → slice_index entries (raster_index rect.size x y f)
      ≡ block_sum sample side (plus rect.corner (spot x y f))

-- an entry for each place of a box of the sample, and enough of them to read a run at the last one:
-- the sum of the block from there on, where the block lies in the box
pub record AreBlockSums (sample : Cells) (sums : BlockSums) : Type 0 where
  pub some : 1 ≤ sums.side
  pub few : 255 * block_bytes sums.side sample.k < 2 ^ 16
  pub inside : Holds sample sums.rect.corner sums.rect.size
  pub long : length sums.sums.items ≡ cell_count sums.rect.size + LANES
  pub entries : (x y f : ℕ) → x + sums.side ≤ sums.rect.size.w → y + sums.side ≤ sums.rect.size.h
      → f < sums.rect.size.f → slice_index sums.sums.items (raster_index sums.rect.size x y f)
      ≡ block_sum sample sums.side (plus sums.rect.corner (spot x y f))
