-- The filled cells of the rows of a box, gathered as runs, for the contracts of this crate; a reader
-- has to trust `AreFilledRows` alone, and of it only that it serves `FilledRows` and
-- `error_sum_within`.
use Rattle.std.specs.Prelude.{◌≡◌, ◌≤◌, ◌<◌, ◌+◌, ◌-◌, ◌*◌, ◌/◌, ◌%◌, ◌++◌, ◌∷◌, ◌+ℤ◌, [], ℕ, pos, List, All, drop, length, min, slice_index, take}
use Rattle.std.specs.List.{sum_by}
use Rattle.cells.specs.declared.place.Box3.{Box3}
use Rattle.cells.specs.Boxes.{HoldsBox, cell_in}
use Rattle.boxes.specs.Sums.{sum_to}
use Rattle.map_canvas.specs.Maps.{SourceMap, IsFilled}
use Rattle.match_error.specs.declared.filled_rows.FilledRows.{FilledRows}
use Rattle.match_error.specs.declared.filled_rows.Inset.{Inset}
use Rattle.match_error.specs.declared.filled_rows.RowRun.{RowRun}

-- the cell of a row of a box at a column is filled
abbrev pub IsFilledAt : SourceMap → Box3 → ℕ → ℕ → ℕ → Type 0
IsFilledAt m rect y f x = IsFilled m (cell_in rect x y f)

-- a fact holds of no column from one on and before another
pub record IsGap (Is : ℕ → Type 0) (from to : ℕ) : Type 0 where
  pub order : from ≤ to
  pub none : (x : ℕ) → from ≤ x → x < to → Is x → ⊥

-- from one column on, a run has the next columns of which the fact holds
pub record IsNextRun (Is : ℕ → Type 0) (from : ℕ) (run : RowRun) : Type 0 where
  pub gap : IsGap Is from run.first
  pub some : run.first < run.end
  pub cells : (x : ℕ) → run.first ≤ x → x < run.end → Is x

-- from one column on and before another, runs that follow one another have those columns, and no
-- other
abbrev pub AreRunsOf : (ℕ → Type 0) → ℕ → ℕ → List RowRun → Type 0
AreRunsOf Is from to [] = IsGap Is from to
AreRunsOf Is from to (run ∷ runs) = IsNextRun Is from run × AreRunsOf Is run.end to runs

-- more runs were put after others: those of the first so many columns
pub record AreMoreRuns (Is : ℕ → Type 0) (columns : ℕ) (was now : List RowRun) : Type 0 where
  pub more : List RowRun
  pub put : now ≡ was ++ more
  pub are : AreRunsOf Is 0 columns more

-- among all runs, those from one number on and before another are those of so many columns
pub record AreRowRuns (Is : ℕ → Type 0) (columns start end : ℕ) (runs : List RowRun)
    : Type 0 where
  pub order : start ≤ end
  pub within : end ≤ length runs
  pub are : AreRunsOf Is 0 columns (take (end - start) (drop start runs))

-- these are the runs of the filled cells of so many rows of a box, its rows counted on through all
-- frames, and where those of each row start and those of the last one end
pub record AreRunsTo (m : SourceMap) (rect : Box3) (rows : ℕ) (starts : List ℕ)
    (runs : List RowRun) : Type 0 where
  pub long : length starts ≡ rows + 1
  pub last : slice_index starts rows ≡ length runs
  pub each : (row : ℕ) → row < rows
      → AreRowRuns (IsFilledAt m rect (row % rect.size.h) (row / rect.size.h)) rect.size.w
      (slice_index starts row) (slice_index starts (row + 1)) runs

-- the rows of a box inside the output have the runs of its filled cells
pub record AreFilledRows (m : SourceMap) (rows : FilledRows) : Type 0 where
  pub inside : HoldsBox m.size rows.rect.corner rows.rect.size
  pub runs : AreRunsTo m rows.rect (rows.rect.size.h * rows.rect.size.f) rows.starts.items
      rows.runs.items

-- a box is so far in another, and lies in it
pub record IsInset (outer rect : Box3) (inset : Inset) : Type 0 where
  pub x : rect.corner.x ≡ outer.corner.x +ℤ pos inset.x
  pub y : rect.corner.y ≡ outer.corner.y +ℤ pos inset.y
  pub f : rect.corner.f ≡ outer.corner.f +ℤ pos inset.f
  pub columns_in : inset.x + rect.size.w ≤ outer.size.w
  pub rows_in : inset.y + rect.size.h ≤ outer.size.h
  pub frames_in : inset.f + rect.size.f ≤ outer.size.f

-- where a column comes to in a part of w columns of its row that begins at column x: one before it
-- comes to its front, and one after it to its end
abbrev pub column_in : ℕ → ℕ → ℕ → ℕ
column_in x w column = min (column - x) w

-- the sum of the terms of those columns of the part that a run has
abbrev pub run_part : (ℕ → ℕ) → ℕ → ℕ → RowRun → ℕ
run_part g x w run = sum_to (column_in x w run.end - column_in x w run.first)
    (λ i. g (column_in x w run.first + i))

-- where a row of a box begins at column x of a run's row, those of its columns that the run has are
-- filled
pub record IsLaidRun (m : SourceMap) (rect : Box3) (x y f : ℕ) (run : RowRun) : Type 0 where
  pub cells : (i : ℕ) → column_in x rect.size.w run.first ≤ i
      → i < column_in x rect.size.w run.end → IsFilledAt m rect y f i

-- and these runs have all its filled cells: where the terms of all others are 0, the sums of the
-- runs add up to that of the row
pub record AreLaidRuns (m : SourceMap) (rect : Box3) (x y f : ℕ) (runs : List RowRun)
    : Type 0 where
  pub cells : All (IsLaidRun m rect x y f) runs
  pub sum : (g : ℕ → ℕ)
      → ((i : ℕ) → i < rect.size.w → (IsFilledAt m rect y f i → ⊥) → g i ≡ 0)
      → sum_by (run_part g x rect.size.w) runs ≡ sum_to rect.size.w g
