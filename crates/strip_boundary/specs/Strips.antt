-- A reader has to trust this file. Strips, as tables of errors.
use Rattle.std.specs.Prelude.{ℕ, ◌+◌, ◌*◌, ◌≤◌, ◌≡◌, List, length, slice_index, All}
use Rattle.strip_boundary.specs.declared.strip.TheConstants.{GREATEST_ERROR}
use Rattle.limits.specs.declared.bounds.TheConstants.{GREATEST_AXIS}

-- a strip: the squared differences of its cells, row by row (Efros and Freeman 2001)
pub record ErrorTable : Type 0 where
  pub rows : ℕ
  pub cols : ℕ
  pub errors : List ℕ

-- the table with these rows and columns and these errors, row by row
abbrev pub table_of : ℕ → ℕ → List ℕ → ErrorTable
table_of rows cols errors = record { rows = rows; cols = cols; errors = errors }

-- what every strip keeps (own): at least one row and column, and one error per cell
pub record IsStrip (strip : ErrorTable) : Type 0 where
  pub some_rows : 1 ≤ strip.rows
  pub most_rows : strip.rows ≤ GREATEST_AXIS
  pub some_cols : 1 ≤ strip.cols
  pub most_cols : strip.cols ≤ GREATEST_AXIS
  pub error_per_cell : length strip.errors ≡ strip.rows * strip.cols
  pub greatest : All (λ error. error ≤ GREATEST_ERROR) strip.errors

-- the number of a cell in a table that has one per cell of the strip, row by row
abbrev pub at_cell : ErrorTable → List ℕ → ℕ → ℕ → ℕ
at_cell strip table row col = slice_index table (row * strip.cols + col)

-- the error of a cell
abbrev pub error_at : ErrorTable → ℕ → ℕ → ℕ
error_at strip row col = at_cell strip strip.errors row col
