-- A reader need not trust this file: it says what the steps of the table make. How the sums of many
-- windows are found at once: from the costs of the pairs of all their cells, by sums of runs along
-- each axis. (Own.)
use Rattle.std.specs.Prelude.{◌≤◌, ◌<◌, ℕ, ◌+◌, ◌-◌, ◌*◌, ◌/◌, ◌%◌, ◌^◌, ◌≡◌, ◌⊎◌, ℤ, pos, ◌+ℤ◌, ◌≤ℤ◌, Bool, if◌then◌else◌, List, length, slice_index, Option}
use Rattle.limits.specs.declared.bounds.TheConstants.{GREATEST_AXIS}
use Rattle.cells.specs.declared.place.At.{At}
use Rattle.cells.specs.declared.place.Axis.{Axis}
use Rattle.cells.specs.declared.place.Axis.TheVariants.{X, Y, F}
use Rattle.cells.specs.declared.place.Size.{Size}
use Rattle.cells.specs.Places.{spot}
use Rattle.boxes.specs.Sums.{sum_to, sum_box}
use Rattle.cost_windows.specs.declared.block.Block.{Block}
use Rattle.cost_windows.specs.declared.block.Run.{Run}
use Rattle.costs.specs.Costs.{pair_at}

-- the most that an entry grows to: after a sum along one axis, two and three. Each sum has at most
-- as many terms as the greatest axis has cells, and none is at most a power of two.
abbrev pub most_after_two : ℕ
most_after_two = 2 ^ 36

abbrev pub most_after_three : ℕ
most_after_three = 2 ^ 48

-- lengths that no output exceeds
pub record IsLens (lens : Size) : Type 0 where
  pub w : lens.w ≤ GREATEST_AXIS
  pub h : lens.h ≤ GREATEST_AXIS
  pub f : lens.f ≤ GREATEST_AXIS

-- one cell less along an axis
abbrev pub less_one : Axis → Size → Size
less_one X size = record { w = size.w - 1; h = size.h; f = size.f }
less_one Y size = record { w = size.w; h = size.h - 1; f = size.f }
less_one F size = record { w = size.w; h = size.h; f = size.f - 1 }

-- the sum of the entries of a box of some lengths, from an entry on, where the buffer has the cells
-- of a larger box in raster order
abbrev pub box_run : Size → Size → List ℕ → ℕ → ℕ
box_run size lens buffer j =
    sum_to lens.f (λ f. sum_to lens.h (λ y.
    sum_to lens.w (λ x. slice_index buffer (j + size.w * size.h * f + size.w * y + 1 * x))))

-- what the pairs along one axis cost in the window at three counts
abbrev pub axis_sum : (At → At → ℕ) → (At → Option At) → Axis → Size → ℕ → ℕ → ℕ → ℕ
axis_sum d m axis window a b c = sum_box (less_one axis window)
    (λ x y f. pair_at d m axis (spot (a + x) (b + y) (c + f)))

-- how many cells a block has on each axis
abbrev pub block_size : Block → Size
block_size block = record { w = block.x.len; h = block.y.len; f = block.f.len }

-- a size holds the block, and it has a cell
pub record HoldsBlock (size : Size) (block : Block) : Type 0 where
  pub x : block.x.from + block.x.len ≤ size.w
  pub y : block.y.from + block.y.len ≤ size.h
  pub f : block.f.from + block.f.len ≤ size.f

-- the count is one of a run, and three counts are those of a cell of a block
abbrev pub IsOnRun : Run → ℕ → Type 0
IsOnRun run c = (run.from ≤ c) × (c < run.from + run.len)

pub record IsInBlock (block : Block) (x y f : ℕ) : Type 0 where
  pub column : IsOnRun block.x x
  pub row : IsOnRun block.y y
  pub frame : IsOnRun block.f f

-- the cells of all windows whose corners are a run, or a block
abbrev pub reach_run : ℕ → Run → Run
reach_run window run = record { from = run.from; len = run.len + window - 1 }

abbrev pub reach_of : Size → Block → Block
reach_of window block = record {
  x = reach_run window.w block.x;
  y = reach_run window.h block.y;
  f = reach_run window.f block.f;
}

-- the index, in raster order of a size, of the first cell of a row of the block
abbrev pub row_start : Size → Block → ℕ → ℕ
row_start size block row = block.x.from + size.w *
    (block.y.from + row % block.y.len + size.h * (block.f.from + row / block.y.len))

-- the index of that cell among the cells of a size from the block's first cell on
abbrev pub row_offset : Size → Block → ℕ → ℕ
row_offset size block row = size.w * (row % block.y.len + size.h * (row / block.y.len))

-- the number where it is kept, or 0
abbrev pub number_if : Bool → ℕ → ℕ
number_if keep n = if keep then n else 0

-- what is there after a number has been added to another that is kept, or put in its place
abbrev pub added : Bool → List ℕ → List ℕ → ℕ → ℕ → ℕ
added keep old more i j = number_if keep (slice_index old i) + slice_index more j

-- what a function of counts gives for the cell of a block in a row and a column
abbrev pub at_row : {A : Type 0} → Block → (ℕ → ℕ → ℕ → A) → ℕ → ℕ → A
at_row block g row k = g (block.x.from + k) (block.y.from + row % block.y.len)
    (block.f.from + row / block.y.len)

-- something holds of each row and each column of a block
abbrev pub EachOfRows : Block → (ℕ → ℕ → Type 0) → Type 0
EachOfRows block Holds = (row k : ℕ) → row < block.y.len * block.f.len → k < block.x.len →
    Holds row k

-- an index is that of no cell of a block
abbrev pub IsElsewhere : Size → Block → ℕ → Type 0
IsElsewhere size block i = EachOfRows block (λ row k. i ≡ row_start size block row + k → ⊥)

-- two lists of numbers of the cells of a size have the same outside a block
abbrev pub SameElsewhere : Size → Block → List ℕ → List ℕ → Type 0
SameElsewhere size block old new = (i : ℕ) → IsElsewhere size block i →
    slice_index new i ≡ slice_index old i

-- the costs of the pairs along an axis of the cells of a row, from a cell on
abbrev pub AreRowCosts : (At → At → ℕ) → (At → Option At) → Axis → ℕ → ℕ → ℕ → List ℕ → Type 0
AreRowCosts d m axis x y f costs =
    (k : ℕ) → k < length costs → slice_index costs k ≡ pair_at d m axis (spot (x + k) y f)

-- the costs of the pairs along an axis of the cells of a block, in raster order of the block
abbrev pub AreCosts : (At → At → ℕ) → (At → Option At) → Axis → Block → List ℕ → Type 0
AreCosts d m axis block costs = EachOfRows block (λ row k.
    slice_index costs (k + block.x.len * row) ≡
    at_row block (λ x y f. pair_at d m axis (spot x y f)) row k)

-- no number of the list is greater
abbrev pub AreAtMost : ℕ → List ℕ → Type 0
AreAtMost most numbers = (i : ℕ) → slice_index numbers i ≤ most

-- a window of a length that begins at a count ends before a run of cells of one axis, or begins
-- after it
abbrev pub AreApart : ℕ → ℕ → ℤ → ℕ → Type 0
AreApart c window from len = ((pos c +ℤ pos window) ≤ℤ from) ⊎ ((from +ℤ pos len) ≤ℤ pos c)

-- so does each that begins beside a run of corners, of so many
abbrev pub AreOthers : ℕ → ℕ → ℤ → ℕ → Run → Type 0
AreOthers count window from len run =
    (c : ℕ) → c < count → (c < run.from) ⊎ (run.from + run.len ≤ c) → AreApart c window from len
