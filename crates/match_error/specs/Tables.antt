-- How many cells are filled, summed up for many boxes, for the contracts of this crate; a reader has
-- to trust `AreFilledCounts` alone, and of it only that it serves `FilledCounts`. (Summed-area tables
-- are those of Crow 1984.)
use Rattle.std.specs.Prelude.{◌≡◌, ◌≤◌, ◌<◌, ◌+◌, ◌*◌, ◌/◌, ◌%◌, ℕ, List, length, slice_index}
use Rattle.cells.specs.declared.place.Box3.{Box3}
use Rattle.cells.specs.Boxes.{HoldsBox, cell_in}
use Rattle.boxes.specs.Sums.{sum_to}
use Rattle.map_canvas.specs.Maps.{SourceMap, map_at}
use Rattle.match_error.specs.declared.table.FilledCounts.{FilledCounts}
use Rattle.match_error.specs.Errors.{one_filled}

-- 1 for a filled cell of a row of a box, its rows counted on through all frames
abbrev pub one_in_row : SourceMap → Box3 → ℕ → ℕ → ℕ
one_in_row m rect x row =
    one_filled (map_at m (cell_in rect x (row % rect.size.h) (row / rect.size.h)))

-- how many of the first cells of the first rows are filled
abbrev pub filled_before : SourceMap → Box3 → ℕ → ℕ → ℕ
filled_before m rect x row = sum_to row (λ j. sum_to x (λ i. one_in_row m rect i j))

-- these are the entries of so many rows, and of none: one for each count of columns
abbrev pub AreEntries : SourceMap → Box3 → ℕ → List ℕ → Type 0
AreEntries m rect rows entries =
    (x row : ℕ) → x ≤ rect.size.w → row ≤ rows
    → slice_index entries ((rect.size.w + 1) * row + x) ≡ filled_before m rect x row

-- other entries have one more row, whose filled cells are added to the entries from one on
pub record AreMoreEntries (m : SourceMap) (rect : Box3) (above y f : ℕ) (was now : List ℕ) : Type 0 where
  pub long : length now ≡ length was + (rect.size.w + 1)
  pub kept : (i : ℕ) → i < length was → slice_index now i ≡ slice_index was i
  pub more : (x : ℕ) → x ≤ rect.size.w → slice_index now (length was + x)
      ≡ slice_index was (above + x) + sum_to x (λ i. one_filled (map_at m (cell_in rect i y f)))

-- the counts of a box inside the output are those of its filled cells
pub record AreFilledCounts (m : SourceMap) (counts : FilledCounts) : Type 0 where
  pub inside : HoldsBox m.size counts.rect.corner counts.rect.size
  pub long : length counts.entries.items
      ≡ (counts.rect.size.w + 1) * (counts.rect.size.h * counts.rect.size.f + 1)
  pub entries : AreEntries m counts.rect (counts.rect.size.h * counts.rect.size.f)
      counts.entries.items
