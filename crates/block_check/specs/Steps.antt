-- Parts of the check and of a block, for the contracts within the crate. Nobody has to trust this
-- file. (Own.)
use Rattle.std.specs.Prelude.{◌≡◌, ◌≤◌, ◌<◌, ◌*◌, ◌/◌, ◌%◌, ◌⊎◌, ◌↔◌, ℕ, Bool, List, length, map, Option, IfSome, Result, Ok, Err}
use Rattle.std.specs.List.{range_with_len}
use Rattle.cells.specs.Places.{plus, spot}
use Rattle.map_canvas.specs.declared.canvas.Placement.{Placement}
use Rattle.map_canvas.specs.Choices.{box_cell}
use Rattle.map_canvas.specs.Maps.{IsFilled, SourceMap}
use Rattle.strip_boundary.specs.declared.boundary.BoundaryRecord.{BoundaryRecord}
use Rattle.strip_boundary.specs.Records.{BoundaryStands, IsFirstBoundaryFault}
use Rattle.strip_boundary.specs.Strips.{ErrorTable}
use Rattle.block_strips.specs.declared.side.Side.{Side}
use Rattle.block_strips.specs.Strips.{most_cols, strip_rows}
use Rattle.block_check.specs.declared.block.BlockRecord.{BlockRecord}
use Rattle.block_check.specs.declared.check.BlockError.{BlockError}
use Rattle.block_check.specs.declared.check.BlockError.TheVariants.{Fault, NoMemory}
use Rattle.block_check.specs.Blocks.{is_new_at}

-- the cell of a placement in a column and a row is filled exactly where one of two strips has it
abbrev pub IsSharedCell : SourceMap → Placement → ℕ → ℕ → ℕ → ℕ → Type 0
IsSharedCell m placement left top x y =
    IsFilled m (plus placement.rect.corner (spot x y 0)) ↔ ((x < left) ⊎ (y < top))

-- the same of the cell at an index
abbrev pub IsSharedAt : SourceMap → Placement → ℕ → ℕ → ℕ → Type 0
IsSharedAt m placement left top i = IsFilled m (box_cell placement i)
    ↔ ((i % placement.rect.size.w < left)
    ⊎ (i / placement.rect.size.w % placement.rect.size.h < top))

-- so many columns are those of the strip of a boundary, if there is one
pub record AreColumns (rows most cols : ℕ) (boundary : BoundaryRecord) : Type 0 where
  pub some : 1 ≤ cols
  pub most_of : cols ≤ most
  pub count : length boundary.sums ≡ rows * cols

abbrev pub AreColumnsOn : Side → Placement → Option BoundaryRecord → ℕ → Type 0
AreColumnsOn side placement boundary cols = IfSome boundary (AreColumns
    (strip_rows side placement.rect.size) (most_cols side placement.rect.size) cols)

-- what the check of a boundary answers
abbrev pub ChecksStrip :
    ErrorTable → BoundaryRecord → Result (Unit {0}) BlockError → Type 0
ChecksStrip strip boundary (Ok _) = BoundaryStands strip boundary
ChecksStrip strip boundary (Err (Fault fault)) = IsFirstBoundaryFault strip boundary fault
ChecksStrip strip boundary (Err NoMemory) = ⊥

-- a boundary, if there is one, has a column for this strip row
abbrev pub HasColumnIn : ℕ → Option BoundaryRecord → Type 0
HasColumnIn row boundary = IfSome boundary (λ it. row < length it.path)

-- or for each strip row of a side
abbrev pub HasRowsOn : Side → Placement → Option BoundaryRecord → Type 0
HasRowsOn side placement boundary =
    IfSome boundary (λ it. length it.path ≡ strip_rows side placement.rect.size)

-- of each cell of so many rows of a block, from the first on, whether it is new
abbrev pub first_rows : BlockRecord → ℕ → List Bool
first_rows block n =
    map (is_new_at block) (range_with_len 0 (block.placement.rect.size.w * n))
