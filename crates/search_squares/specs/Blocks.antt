-- A reader has to trust this file. Blocks of a box, and what they bound: the squared difference of
-- the sums of two blocks is at most the squared difference of their bytes, as many times as they
-- have bytes. By this a search for the best match leaves candidates out (Li and Salari 1995;
-- several sizes of blocks: Gao, Duanmu and Zou 2000).
use Rattle.std.specs.Prelude.{◌≡◌, ◌≤◌, ◌<◌, ◌+◌, ◌*◌, ℕ, All, sum}
use Rattle.std.specs.Int.{abs_diff}
use Rattle.std.specs.List.{sum_by}
use Rattle.cells.specs.declared.place.At.{At}
use Rattle.cells.specs.declared.place.Box3.{Box3}
use Rattle.cells.specs.declared.place.Size.{Size}
use Rattle.cells.specs.Cells.{Cells, row_at}
use Rattle.cells.specs.Places.{plus, raster_index, spot}
use Rattle.boxes.specs.Sums.{sum_to}
use Rattle.map_canvas.specs.Canvases.{CanvasState}
use Rattle.map_canvas.specs.Choices.{laid_from}
use Rattle.match_error.specs.Errors.{error_sum}
use Rattle.match_error.specs.Runs.{IsLaidOver}
use Rattle.search_squares.specs.declared.blocks.Block.{Block}
use Rattle.search_squares.specs.declared.blocks.BoxBlocks.{BoxBlocks}

-- the sum of the bytes of a block of side x side cells of one frame, from a place on
abbrev pub block_sum : Cells → ℕ → At → ℕ
block_sum v side at = sum_to side (λ j. sum (row_at v (plus at (spot 0 j 0)) side))

-- how many bytes such a block has
abbrev pub block_bytes : ℕ → ℕ → ℕ
block_bytes side k = side * side * k

-- how far two sums are apart, squared
abbrev pub square_of_difference : ℕ → ℕ → ℕ
square_of_difference a b = abs_diff a b * abs_diff a b

-- a block lies in a frame of the box
pub record IsBlockIn (rect : Box3) (side : ℕ) (block : Block) : Type 0 where
  pub x : ℕ
  pub y : ℕ
  pub f : ℕ
  pub step : block.step ≡ spot x y f
  pub columns : x + side ≤ rect.size.w
  pub rows : y + side ≤ rect.size.h
  pub frame : f < rect.size.f

-- its entry is how many cells come before its first one, in raster order, in a box of that size
abbrev pub HasEntry : Size → Block → Type 0
HasEntry size block =
    (x y f : ℕ) → block.step ≡ spot x y f → block.entry ≡ raster_index size x y f

-- its sum is that of what is there
abbrev pub HasSumOf : CanvasState → Box3 → ℕ → Block → Type 0
HasSumOf canvas rect side block =
    block.sum ≡ block_sum canvas.picture side (plus rect.corner block.step)

-- how far the blocks are from those of a sample, where the box is laid from a place on
abbrev pub blocks_difference : BoxBlocks → Cells → At → ℕ
blocks_difference blocks sample from = sum_by
    (λ block. square_of_difference block.sum (block_sum sample blocks.side (plus from block.step)))
    blocks.blocks.items

-- the blocks are some of the filled cells of a box, no cell in two of them: however the box is laid,
-- they bound the overlap error
pub record AreBoxBlocks (canvas : CanvasState) (rect : Box3) (blocks : BoxBlocks) : Type 0 where
  pub some : 1 ≤ blocks.side
  pub inside : All (IsBlockIn rect blocks.side) blocks.blocks.items
  pub entries : All (HasEntry blocks.size) blocks.blocks.items
  pub sums : All (HasSumOf canvas rect blocks.side) blocks.blocks.items
  pub bound : (sample : Cells) (from : At) → IsLaidOver canvas rect sample from
      → blocks_difference blocks sample from
      ≤ block_bytes blocks.side sample.k * error_sum canvas.map sample (laid_from rect from)
