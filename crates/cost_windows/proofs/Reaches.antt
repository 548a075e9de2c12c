-- The cells of all windows of a block of corners, and the runs of their costs.
use Rattle.std.proofs.Common.{◌≡◌, ◌≤◌, ◌<◌, ◌+◌, ◌-◌, ◌*◌, ◌/◌, ◌%◌, ℕ, List, get_or, ap, ◌∙◌, arith}
use Rattle.std.proofs.Math.Nat.{mul_comm, mul-le-mul}
use Rattle.std.proofs.lemmas.Nat.{mod-mul-add, div-mul-add}
use Rattle.std.specs.Prelude.{Option}
use Rattle.cells.specs.declared.place.At.{At}
use Rattle.cells.specs.declared.place.Size.{Size}
use Rattle.cells.specs.declared.place.Axis.{Axis}
use Rattle.cells.specs.declared.place.Axis.TheVariants.{X, Y, F}
use Rattle.cells.specs.Boxes.{HasCells}
use Rattle.cells.specs.Places.{IsSmall, cell_count, raster_index, spot}
use Rattle.cells.proofs.Raster.{in_rows}
use Rattle.boxes.proofs.Additions.{counts}
use Rattle.boxes.proofs.Boxes.{box_equal, box_none}
use Rattle.cost_windows.specs.declared.block.Block.{Block}
use Rattle.costs.specs.Costs.{pair_at}
use Rattle.cost_windows.specs.Slides.{AreCosts, HoldsBlock, IsInBlock, axis_sum, block_size, box_run, less_one, reach_of, row_offset, row_start}
use Rattle.cost_windows.specs.Tables.{IsWindow, corners}
use Rattle.cost_windows.proofs.Rows.{frame_below, row_below}

pub record IsReach (output : Size) (reach : Block) : Type 0 where
  pub inside : HoldsBlock output reach
  pub small : IsSmall (block_size reach)
  pub count : cell_count (block_size reach) ≤ cell_count output

pub reach_is : (output window : Size) (block : Block) → IsSmall output → IsWindow output window → HasCells (block_size block) → HoldsBlock (corners output window) block
    → IsReach output (reach_of window block)
reach_is output window block small is some holds =
    let reach = block_size (reach_of window block) in
    let w : reach.w ≤ output.w = omega (arith, holds.x, is.w, is.some.w) in
    let h : reach.h ≤ output.h = omega (arith, holds.y, is.h, is.some.h) in
    let f : reach.f ≤ output.f = omega (arith, holds.f, is.f, is.some.f) in
    let cells : cell_count reach ≤ cell_count output = mul-le-mul w (mul-le-mul h f) in
    record {
      inside = record {
        x = omega (arith, holds.x, is.w, is.some.w);
        y = omega (arith, holds.y, is.h, is.some.h);
        f = omega (arith, holds.f, is.f, is.some.f);
      };
      small = record {
        axes = record {
          w = (omega (arith, some.w, is.some.w), omega (arith, small.axes.w));
          h = (omega (arith, some.h, is.some.h), omega (arith, small.axes.h));
          f = (omega (arith, some.f, is.some.f), omega (arith, small.axes.f));
        };
        cells = omega (arith, small.cells, cells);
      };
      count = cells;
    }

-- the counts of a number of rows
parts_of_row : (h y f : ℕ) → y < h → ((y + h * f) % h ≡ y) × ((y + h * f) / h ≡ f)
parts_of_row h y f lt = (ap (λ i. i % h) turned ∙ mod-mul-add f h y lt, ap (λ i. i / h) turned ∙ div-mul-add f h y lt)
  where
    turned : y + h * f ≡ f * h + y
    turned = omega (arith, mul_comm h f)

record IsAtMost (less size : Size) : Type 0 where
  pub w : less.w ≤ size.w
  pub h : less.h ≤ size.h
  pub f : less.f ≤ size.f

less_at_most : (axis : Axis) (size : Size) → IsAtMost (less_one axis size) size
less_at_most X size = record { w = omega arith; h = omega arith; f = omega arith }
less_at_most Y size = record { w = omega arith; h = omega arith; f = omega arith }
less_at_most F size = record { w = omega arith; h = omega arith; f = omega arith }

-- the index of a cell some columns, rows and frames after another
index_on : (w h k x yr y fr f : ℕ) → w * (yr + h * fr) + k + w * h * f + w * y + 1 * x ≡ k + x + w * (yr + y + h * (fr + f))
index_on w h k x yr y fr f = omega arith

-- the runs of the costs from the first cells of the reach on are what the pairs cost in the windows there
pub axis_of_runs : (d : At → At → ℕ) (m : At → Option At) (axis : Axis) (window : Size) (block : Block) (costs sums : List ℕ) → HasCells window
    → AreCosts d m axis (reach_of window block) costs
    → ((j : ℕ) → get_or sums j 0 ≡ box_run (block_size (reach_of window block)) (less_one axis window) costs j)
    → (row k : ℕ) → row < block.y.len * block.f.len → k < block.x.len
    → get_or sums (row_offset (block_size (reach_of window block)) block row + k) 0 ≡ axis_sum d m axis window (block.x.from + k) (block.y.from + row % block.y.len) (block.f.from + row / block.y.len)
axis_of_runs d m axis window block costs sums some are runs row k below lt =
    runs (row_offset size block row + k)
    ∙ box_equal counts less (λ x y f. get_or costs (row_offset size block row + k + size.w * size.h * f + size.w * y + 1 * x) 0)
    (λ x y f. pair_at d m axis (spot (block.x.from + k + x) (block.y.from + row % block.y.len + y) (block.f.from + row / block.y.len + f))) term
  where
    reach : Block
    reach = reach_of window block

    size : Size
    size = block_size reach

    less : Size
    less = less_one axis window

    term : (x y f : ℕ) → x < less.w → y < less.h → f < less.f
        → get_or costs (row_offset size block row + k + size.w * size.h * f + size.w * y + 1 * x) 0
        ≡ pair_at d m axis (spot (block.x.from + k + x) (block.y.from + row % block.y.len + y) (block.f.from + row / block.y.len + f))
    term x y f lx ly lf =
        let le = less_at_most axis window in
        let from_y = row_below block.y.len block.f.len row below in
        let from_f = frame_below block.y.len block.f.len row below in
        let column : k + x < size.w = omega (arith, le.w, some.w) in
        let row' : row % block.y.len + y < size.h = omega (arith, le.h, some.h) in
        let frame : row / block.y.len + f < size.f = omega (arith, le.f, some.f) in
        let parts = parts_of_row size.h (row % block.y.len + y) (row / block.y.len + f) row' in
        let ex : block.x.from + (k + x) ≡ block.x.from + k + x = omega arith in
        let ey : block.y.from + (row % block.y.len + y + size.h * (row / block.y.len + f)) % size.h ≡ block.y.from + row % block.y.len + y = omega (arith, parts.0) in
        let ef : block.f.from + (row % block.y.len + y + size.h * (row / block.y.len + f)) / size.h ≡ block.f.from + row / block.y.len + f = omega (arith, parts.1) in
        ap (λ p. get_or costs p 0) (index_on size.w size.h k x (row % block.y.len) y (row / block.y.len) f)
        ∙ are (row % block.y.len + y + size.h * (row / block.y.len + f)) (k + x) (in_rows size.h size.f (row / block.y.len + f) (row % block.y.len + y) row' frame) column
        ∙ (λ i. pair_at d m axis (spot (ex i) (ey i) (ef i)))

-- where a window has one cell along an axis, no pair along it costs
pub axis_none : (d : At → At → ℕ) (m : At → Option At) (axis : Axis) (window : Size) (a b c : ℕ) → (HasCells (less_one axis window) → ⊥) → axis_sum d m axis window a b c ≡ 0
axis_none d m axis window a b c none =
    box_none counts (less_one axis window) (λ x y f. pair_at d m axis (spot (a + x) (b + y) (c + f)))
    (λ x y f lx ly lf. absurd (none (record { w = omega arith; h = omega arith; f = omega arith })))

-- the row and the column of a cell of a block
pub record IsRowOf (size : Size) (block : Block) (x y f row k : ℕ) : Type 0 where
  pub below : row < block.y.len * block.f.len
  pub column : k < block.x.len
  pub x_is : block.x.from + k ≡ x
  pub y_is : block.y.from + row % block.y.len ≡ y
  pub f_is : block.f.from + row / block.y.len ≡ f
  pub index : row_start size block row + k ≡ raster_index size x y f

pub row_of : (size : Size) (block : Block) (x y f : ℕ) → IsInBlock block x y f
    → IsRowOf size block x y f (y - block.y.from + block.y.len * (f - block.f.from)) (x - block.x.from)
row_of size block x y f inside =
    let row : y - block.y.from < block.y.len = omega (arith, inside.row) in
    let frame : f - block.f.from < block.f.len = omega (arith, inside.frame) in
    let parts = parts_of_row block.y.len (y - block.y.from) (f - block.f.from) row in
    let ey : block.y.from + (y - block.y.from + block.y.len * (f - block.f.from)) % block.y.len ≡ y = omega (arith, parts.0, inside.row) in
    let ef : block.f.from + (y - block.y.from + block.y.len * (f - block.f.from)) / block.y.len ≡ f = omega (arith, parts.1, inside.frame) in
    let ex : block.x.from + (x - block.x.from) ≡ x = omega (arith, inside.column) in
    record {
      below = in_rows block.y.len block.f.len (f - block.f.from) (y - block.y.from) row frame;
      column = omega (arith, inside.column);
      x_is = ex;
      y_is = ey;
      f_is = ef;
      index = (λ i. block.x.from + size.w * (ey i + size.h * ef i) + (x - block.x.from)) ∙ column_last block.x.from (x - block.x.from) x (size.w * (y + size.h * f)) ex;
    }
  where
    column_last : (from k x n : ℕ) → from + k ≡ x → from + n + k ≡ x + n
    column_last from k x n e = omega (arith, e)

-- the cell of a row and a column
pub cell_of_row : (block : Block) (row k : ℕ) → row < block.y.len * block.f.len → k < block.x.len
    → IsInBlock block (block.x.from + k) (block.y.from + row % block.y.len) (block.f.from + row / block.y.len)
cell_of_row block row k below lt =
    let y = row_below block.y.len block.f.len row below in
    let f = frame_below block.y.len block.f.len row below in
    record {
      column = (omega arith, omega arith);
      row = (omega arith, omega arith);
      frame = (omega arith, omega arith);
    }

pub index_of_row : (size : Size) (block : Block) (row k : ℕ) → row_start size block row + k ≡ raster_index size (block.x.from + k) (block.y.from + row % block.y.len) (block.f.from + row / block.y.len)
index_of_row size block row k = last block.x.from (size.w * (block.y.from + row % block.y.len + size.h * (block.f.from + row / block.y.len))) k
  where
    last : (a n k : ℕ) → a + n + k ≡ a + k + n
    last a n k = omega arith
