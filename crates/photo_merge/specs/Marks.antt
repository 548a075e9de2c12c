-- To be trusted: the marks of a merge, a picture whose cells say from which picture the output's
-- are. (Strokes as in Agarwala et al. 2004; that a byte has a picture's number is own.)
use Rattle.std.specs.Prelude.{◌≡◌, ◌≤◌, ◌<◌, ◌&&◌, ℕ, Bool, nat_lt, List, [], length, map, slice_index_or, Option, Some, None, unwrap_or}
use Rattle.std.specs.List.{range_with_len}
use Rattle.cells.specs.declared.place.At.{At}
use Rattle.cells.specs.declared.place.Size.{Size}
use Rattle.cells.specs.Cells.{Cells, cell_at}
use Rattle.cells.specs.Places.{cell_count, place_of}

-- the mark of a place: the first byte of its cell, which is 0 where the place is unmarked; 0
-- outside
abbrev pub mark_at : Cells → At → ℕ
mark_at marks p = slice_index_or (unwrap_or (cell_at marks p) []) 0 0

-- of so many pictures the cell marks none or one, and its other bytes are 0
pub record IsMark (count : ℕ) (cell : List ℕ) : Type 0 where
  pub picture : slice_index_or cell 0 0 ≤ count
  pub second : slice_index_or cell 1 0 ≡ 0
  pub third : slice_index_or cell 2 0 ≡ 0

-- the cell of the marks at an index in raster order does
abbrev pub HasMark : ℕ → Cells → ℕ → Type 0
HasMark count marks i = IsMark count (slice_index_or marks.cells i [])

-- each cell does
abbrev pub AreMerging : ℕ → Cells → Type 0
AreMerging count marks = (i : ℕ) → i < length marks.cells → HasMark count marks i

-- the first cell that doesn't is the one at this index
pub record IsFirstBad (count : ℕ) (marks : Cells) (index : ℕ) : Type 0 where
  pub inside : index < length marks.cells
  pub bad : HasMark count marks index → ⊥
  pub before : (i : ℕ) → i < index → HasMark count marks i

-- what is found of bad cells: none, or the first
abbrev pub IsFoundBad : ℕ → Cells → Option ℕ → Type 0
IsFoundBad count marks None = AreMerging count marks
IsFoundBad count marks (Some index) = IsFirstBad count marks index

-- a mark is that of a picture before the one of a number
abbrev pub is_earlier : ℕ → ℕ → Bool
is_earlier number mark = nat_lt 0 mark && nat_lt mark number

-- of each cell of a size, in raster order, whether its mark is
abbrev pub earlier_marks : Cells → Size → ℕ → List Bool
earlier_marks marks size number =
    map (λ i. is_earlier number (mark_at marks (place_of size i)))
    (range_with_len 0 (cell_count size))
