-- A reader has to trust this file, but for IsGreatest, the state of a loop. Tables of window sums:
-- the sum of every window of one size that the output holds, by its corner. (Own; the error of each
-- region of a texture, which Kwatra et al. 2003 refine where it is greatest.)
use Rattle.std.specs.Prelude.{◌≡◌, ◌≤◌, ◌<◌, ℕ, ◌+◌, ◌-◌, List, length, slice_index}
use Rattle.std.specs.Prelude.{Option, Some}
use Rattle.cells.specs.declared.place.At.{At}
use Rattle.cells.specs.declared.place.Size.{Size}
use Rattle.cells.specs.declared.place.Box3.{Box3}
use Rattle.cells.specs.Places.{IsSmall, cell_count, index_in}
use Rattle.cells.specs.Boxes.{HasCells, IsInBox}
use Rattle.cost_windows.specs.Windows.{window_at}

-- the size of the output and of a window, and the sums in the raster order of their corners
pub record WindowSums : Type 0 where
  pub output : Size
  pub window : Size
  pub sums : List ℕ

-- how many corners a window may have in an output, on each axis
abbrev pub corners : Size → Size → Size
corners output window = record {
  w = output.w + 1 - window.w;
  h = output.h + 1 - window.h;
  f = output.f + 1 - window.f;
}

-- the window has a cell and the output holds it
pub record IsWindow (output window : Size) : Type 0 where
  pub some : HasCells window
  pub w : window.w ≤ output.w
  pub h : window.h ≤ output.h
  pub f : window.f ≤ output.f

-- what every table is
pub record IsSumTable (table : WindowSums) : Type 0 where
  pub small : IsSmall table.output
  pub window : IsWindow table.output table.window
  pub count : length table.sums ≡ cell_count (corners table.output table.window)

-- the sum at a corner is that of the window there
abbrev pub IsRightAt : (At → At → ℕ) → (At → Option At) → WindowSums → At → Type 0
IsRightAt d m table corner =
    (i : ℕ) → index_in (corners table.output table.window) corner ≡ Some i →
    slice_index table.sums i ≡ window_at d table.window m corner

-- each sum is
abbrev pub IsRight : (At → At → ℕ) → (At → Option At) → WindowSums → Type 0
IsRight d m table = (corner : At) → IsRightAt d m table corner

-- the window at a corner has a cell of the box
pub record Touches (window : Size) (changed : Box3) (corner : At) : Type 0 where
  pub cell : At
  pub in_window : IsInBox (record { corner = corner; size = window }) cell
  pub in_box : IsInBox changed cell

-- two maps have the same outside a box
abbrev pub SameBeside : Box3 → (At → Option At) → (At → Option At) → Type 0
SameBeside changed m n = (p : At) → (IsInBox changed p → ⊥) → n p ≡ m p

-- each sum of a window without a cell of the box is that of the window
abbrev pub IsRightBeside : (At → At → ℕ) → (At → Option At) → Box3 → WindowSums → Type 0
IsRightBeside d m changed table = (corner : At) → (Touches table.window changed corner → ⊥) →
    IsRightAt d m table corner

-- of the first numbers of a list the greatest, and the first of those
pub record IsGreatest (numbers : List ℕ) (n best : ℕ) : Type 0 where
  pub below : best < n
  pub most : (i : ℕ) → i < n → slice_index numbers i ≤ slice_index numbers best
  pub first : (i : ℕ) → i < n → slice_index numbers i ≡ slice_index numbers best → best ≤ i
