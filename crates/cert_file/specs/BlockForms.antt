-- What a reader has to trust: the form of a block record. (Own.)
use Rattle.std.specs.Prelude.{◌≡◌, ◌<◌, ◌+◌, ◌^◌, ℕ, All, List, [], ◌∷◌, ◌++◌, length, pos, IfSome, Option, Some, None}
use Rattle.file_bytes.specs.Fields.{field_16, fields_16, fields_32}
use Rattle.cells.specs.declared.place.At.{At}
use Rattle.cells.specs.declared.place.Size.{Size}
use Rattle.source_map.specs.MapFiles.{IsShort, coordinate_field}
use Rattle.strip_boundary.specs.declared.boundary.BoundaryRecord.{BoundaryRecord}
use Rattle.block_strips.specs.declared.side.Side.{Side}
use Rattle.block_strips.specs.declared.side.Side.TheVariants.{Left, Top}
use Rattle.block_strips.specs.Strips.{strip_rows}
use Rattle.block_check.specs.declared.block.BlockRecord.{BlockRecord}
use Rattle.block_check.specs.Blocks.{IsFormedBlock, boundary_on, cols_of}

-- a place in frame 0: x, y, two bytes each
abbrev pub spot_field : At → List ℕ
spot_field p = coordinate_field p.x ++ coordinate_field p.y

-- the size of a block: w, h, two bytes each
abbrev pub block_size_field : Size → List ℕ
block_size_field size = field_16 size.w ++ field_16 size.h

-- which boundaries a block has: 1 for that of the left strip, and 2 for that of the top strip
abbrev pub flag : ℕ → Option BoundaryRecord → ℕ
flag n None = 0
flag n (Some boundary) = n

abbrev pub flags_of : BlockRecord → ℕ
flags_of block = flag 1 block.left + flag 2 block.top

-- a boundary through a strip of so many strip rows, if there is one: the strip's columns, the path,
-- and the sums, strip row by strip row
abbrev pub boundary_form : ℕ → Option BoundaryRecord → List ℕ
boundary_form rows None = []
boundary_form rows (Some boundary) =
    field_16 (cols_of rows (Some boundary)) ++ fields_16 boundary.path ++ fields_32 boundary.sums

abbrev pub side_form : Side → BlockRecord → List ℕ
side_form side block =
    boundary_form (strip_rows side block.placement.rect.size) (boundary_on side block)

-- corner, size, where the new sources begin, and flags
abbrev pub block_start_form : BlockRecord → List ℕ
block_start_form block =
    spot_field block.placement.rect.corner ++ block_size_field block.placement.rect.size
    ++ spot_field block.placement.from ++ flags_of block ∷ []

-- a block record: what it begins with, the boundary of its left strip, and that of its top strip
unfoldable pub block_form : BlockRecord → List ℕ
block_form block = block_start_form block ++ side_form Left block ++ side_form Top block

-- the path of a boundary, if there is one, has one column for each strip row
abbrev pub HasWholePath : Side → BlockRecord → Type 0
HasWholePath side block = IfSome (boundary_on side block)
    (λ boundary. length boundary.path ≡ strip_rows side block.placement.rect.size)

-- a block record that has a spelling: with a cell, in frame 0, of the output and of the sample, with
-- places and a size that fit in two bytes, and boundaries through strips of the block
pub record IsBlockInForm (block : BlockRecord) : Type 0 where
  pub formed : IsFormedBlock block
  pub corner : IsShort block.placement.rect.corner
  pub w : block.placement.rect.size.w < 2 ^ 16
  pub h : block.placement.rect.size.h < 2 ^ 16
  pub from : IsShort block.placement.from
  pub from_frame : block.placement.from.f ≡ pos 0
  pub left : HasWholePath Left block
  pub top : HasWholePath Top block

-- the columns of a path have 16 bits and its sums 32, as all have in memory
pub record IsWideBoundary (boundary : BoundaryRecord) : Type 0 where
  pub path : All (λ n. n < 2 ^ 16) boundary.path
  pub sums : All (λ n. n < 2 ^ 32) boundary.sums

pub record IsWideBlock (block : BlockRecord) : Type 0 where
  pub left : IfSome block.left IsWideBoundary
  pub top : IfSome block.top IsWideBoundary
