-- A reader has to trust this file. The strips of a block, as tables of errors. (Efros and Freeman
-- 2001: the overlap of a block with what is there before it, left of it and above.)
use Rattle.std.specs.Prelude.{◌*◌, ◌/◌, ◌%◌, ℕ, map}
use Rattle.std.specs.List.{range_with_len}
use Rattle.cells.specs.declared.place.Size.{Size}
use Rattle.cells.specs.Cells.{Cells}
use Rattle.map_canvas.specs.declared.canvas.Placement.{Placement}
use Rattle.map_canvas.specs.Maps.{SourceMap}
use Rattle.map_canvas.specs.CellErrors.{spot_error}
use Rattle.strip_boundary.specs.Strips.{ErrorTable, table_of}
use Rattle.block_strips.specs.declared.side.Side.{Side}
use Rattle.block_strips.specs.declared.side.Side.TheVariants.{Left, Top}

-- the strip rows of a strip on a side of a block, and the most strip columns that it may have: of
-- the left strip they are rows and columns of the block, of the top strip its columns and rows
abbrev pub strip_rows : Side → Size → ℕ
strip_rows Left size = size.h
strip_rows Top size = size.w

abbrev pub most_cols : Side → Size → ℕ
most_cols Left size = size.w
most_cols Top size = size.h

-- the strip row and the strip column of the cell in column x and row y of the block
abbrev pub row_on : Side → ℕ → ℕ → ℕ
row_on Left x y = y
row_on Top x y = x

abbrev pub col_on : Side → ℕ → ℕ → ℕ
col_on Left x y = x
col_on Top x y = y

-- the error of a strip cell: the sum of the squared differences of the three samples of what is
-- in the output before the block, and of what comes with it
abbrev pub strip_error : Side → SourceMap → Cells → Placement → ℕ → ℕ → ℕ
strip_error Left m sample placement row col = spot_error m sample placement col row 0
strip_error Top m sample placement row col = spot_error m sample placement row col 0

-- the table with these errors, row by row
abbrev pub table_by : ℕ → ℕ → (ℕ → ℕ → ℕ) → ErrorTable
table_by rows cols error =
    table_of rows cols (map (λ i. error (i / cols) (i % cols)) (range_with_len 0 (rows * cols)))

-- the strip on a side of a block, with so many strip columns
abbrev pub strip_of : Side → SourceMap → Cells → Placement → ℕ → ErrorTable
strip_of side m sample placement cols =
    table_by (strip_rows side placement.rect.size) cols (strip_error side m sample placement)
