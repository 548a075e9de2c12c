-- What a reader has to trust: how a block record is read, field by field. (Own.)
use Rattle.std.specs.Prelude.{◌≡◌, ◌+◌, ◌*◌, ◌%◌, ◌==◌, ◌||◌, ℕ, pos, nat_lt, nat_le, Bool, true, false, if◌then◌else◌, List, [], ◌∷◌, length, Option, Some, None, Result, Ok, Err}
use Rattle.std.specs.Int.{w8, w16, w32}
use Rattle.shelf_traits.specs.declared.fault.FormFault.TheVariants.{Form}
use Rattle.shelf_traits.specs.declared.fault.ReadError.{ReadError}
use Rattle.shelf_traits.specs.declared.fault.ReadError.TheVariants.{Bad}
use Rattle.cells.specs.declared.place.At.{At}
use Rattle.cells.specs.declared.place.Size.{Size}
use Rattle.cells.specs.Places.{cell_count}
use Rattle.source_map.specs.MapFiles.{IsShort}
use Rattle.source_map.specs.Readings.{◌>>=◌, field_read, list_read, number_read}
use Rattle.strip_boundary.specs.declared.boundary.BoundaryRecord.{BoundaryRecord}
use Rattle.block_strips.specs.declared.side.Side.TheVariants.{Left, Top}
use Rattle.block_strips.specs.Strips.{most_cols, strip_rows}
use Rattle.block_check.specs.declared.block.BlockRecord.{BlockRecord}
use Rattle.block_check.specs.Blocks.{HasColumns, block_cells}
use Rattle.cert_file.specs.declared.block_fields.BlockStart.{BlockStart}
use Rattle.cert_file.specs.CutReading.{IsBoxAfter, box_axis_rule, box_cells_rule, each_read, number_of_two}
use Rattle.cert_file.specs.Rules.{any_rule}

-- a place in frame 0: any two numbers of two bytes
abbrev pub spot_rule : ℕ → List ℕ → Result At ReadError
spot_rule at piece =
    Ok (record { x = pos (number_of_two piece 0); y = pos (number_of_two piece 2); f = pos 0 })

abbrev pub spot_read : ℕ → List ℕ → Result (At × ℕ) ReadError
spot_read = field_read 4 spot_rule

-- the size of a block, after boxes of so many cells
abbrev pub block_size_read : ℕ → ℕ → List ℕ → Result (Size × ℕ) ReadError
block_size_read before at bytes =
    number_read w16 box_axis_rule at bytes >>= λ w.
    number_read w16 box_axis_rule w.1 bytes >>= λ h.
    box_cells_rule before (record { w = w.0; h = h.0; f = 1 }) >>= λ size. Ok (size, h.1)

-- which boundaries a block has
abbrev pub flags_rule : ℕ → ℕ → Result ℕ ReadError
flags_rule at n = if nat_lt 3 n then Err (Bad (Form at)) else Ok n

abbrev pub has_left : ℕ → Bool
has_left flags = flags % 2 == 1

abbrev pub has_top : ℕ → Bool
has_top flags = nat_le 2 flags

-- corner, size, where the new sources begin, and flags
abbrev pub block_start_read : ℕ → ℕ → List ℕ → Result (BlockStart × ℕ) ReadError
block_start_read before at bytes =
    spot_read at bytes >>= λ corner.
    block_size_read before corner.1 bytes >>= λ size.
    spot_read size.1 bytes >>= λ from.
    number_read w8 flags_rule from.1 bytes >>= λ flags.
    Ok (
      record {
        placement = record { rect = record { corner = corner.0; size = size.0 }; from = from.0 };
        flags = flags.0;
      },
      flags.1,
    )

-- a strip has from 1 to so many columns
abbrev pub cols_rule : ℕ → ℕ → ℕ → Result ℕ ReadError
cols_rule most at n = if n == 0 || nat_lt most n then Err (Bad (Form at)) else Ok n

-- a boundary through a strip of so many rows, and of so many columns at most
abbrev pub boundary_read : ℕ → ℕ → ℕ → List ℕ → Result (BoundaryRecord × ℕ) ReadError
boundary_read rows most at bytes =
    number_read w16 (cols_rule most) at bytes >>= λ cols.
    list_read (number_read w16 any_rule) rows cols.1 bytes >>= λ path.
    list_read (number_read w32 any_rule) (rows * cols.0) path.1 bytes >>= λ sums.
    Ok (record { path = path.0; sums = sums.0 }, sums.1)

-- the boundary on a side, if the flags tell of one
abbrev pub side_read : Bool → ℕ → ℕ → ℕ → List ℕ → Result (Option BoundaryRecord × ℕ) ReadError
side_read false rows most at bytes = Ok (None, at)
side_read true rows most at bytes =
    boundary_read rows most at bytes >>= λ boundary. Ok (Some boundary.0, boundary.1)

abbrev pub left_read : BlockStart → ℕ → List ℕ → Result (Option BoundaryRecord × ℕ) ReadError
left_read start = side_read (has_left start.flags)
    (strip_rows Left start.placement.rect.size) (most_cols Left start.placement.rect.size)

abbrev pub top_read : BlockStart → ℕ → List ℕ → Result (Option BoundaryRecord × ℕ) ReadError
top_read start = side_read (has_top start.flags)
    (strip_rows Top start.placement.rect.size) (most_cols Top start.placement.rect.size)

-- a block record, after boxes of so many cells
abbrev pub block_read : ℕ → ℕ → List ℕ → Result (BlockRecord × ℕ) ReadError
block_read before at bytes =
    block_start_read before at bytes >>= λ start.
    left_read start.0 start.1 bytes >>= λ left.
    top_read start.0 left.1 bytes >>= λ top.
    Ok (record { placement = start.0.placement; left = left.0; top = top.0 }, top.1)

-- so many block records
abbrev pub blocks_read : ℕ → ℕ → List ℕ → Result (List BlockRecord × ℕ) ReadError
blocks_read = each_read (λ front. block_read (block_cells front))

-- a place in frame 0 whose coordinates are numbers of 16 bits
pub record IsSpot (p : At) : Type 0 where
  pub short : IsShort p
  pub frame : p.f ≡ pos 0

-- what a block record begins with: places and a size in their ranges, after boxes of so many cells
pub record IsStartAfter (before : ℕ) (start : BlockStart) : Type 0 where
  pub corner : IsSpot start.placement.rect.corner
  pub box : IsBoxAfter before start.placement.rect.size
  pub frame : start.placement.rect.size.f ≡ 1
  pub from : IsSpot start.placement.from

-- a boundary as it is read, through a strip of so many rows, and of so many columns at most
pub record IsBoundaryRead (rows most : ℕ) (boundary : BoundaryRecord) : Type 0 where
  pub path : length boundary.path ≡ rows
  pub columns : HasColumns rows most boundary
