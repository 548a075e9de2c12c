-- A reader has to trust this file. What several block records leave, put in one after another, and
-- the first of them that doesn't stand. (Own.)
use Rattle.std.specs.Prelude.{◌≡◌, ℕ, List, [], ◌∷◌, take, Some, slice_get}
use Rattle.cells.specs.Cells.{Cells}
use Rattle.map_canvas.specs.Maps.{SourceMap}
use Rattle.strip_boundary.specs.declared.check.BlockFault.{BlockFault}
use Rattle.block_check.specs.declared.block.BlockRecord.{BlockRecord}
use Rattle.block_check.specs.Blocks.{after_block}
use Rattle.block_check.specs.Records.{BlockIsLeast, BlockStands, IsFirstBlockFault}

-- the map that block records leave, put in one after another
abbrev pub left_by_blocks : SourceMap → List BlockRecord → SourceMap
left_by_blocks m [] = m
left_by_blocks m (block ∷ blocks) = left_by_blocks (after_block m block) blocks

-- something holds of each record and the map that the records before it leave
abbrev pub EachBlockOver :
    (SourceMap → BlockRecord → Type 0) → SourceMap → List BlockRecord → Type 0
EachBlockOver Holds m [] = Unit {0}
EachBlockOver Holds m (block ∷ blocks) =
    Holds m block × EachBlockOver Holds (after_block m block) blocks

-- each record stands over that map, and each boundary is least there
abbrev pub EachBlockStands : Cells → SourceMap → List BlockRecord → Type 0
EachBlockStands sample = EachBlockOver (λ m block. BlockStands m sample block)

abbrev pub EachBlockIsLeast : Cells → SourceMap → List BlockRecord → Type 0
EachBlockIsLeast sample = EachBlockOver (λ m block. BlockIsLeast m sample block)

-- a record by its number in the list, from 0, and its first fault
pub record BrokenBlock : Type 0 where
  pub number : ℕ
  pub fault : BlockFault

-- the first record that doesn't stand over the map that the records before it leave, and its first
-- fault
pub record IsFirstBrokenBlock (sample : Cells) (m : SourceMap) (blocks : List BlockRecord)
    (broken : BrokenBlock) : Type 0 where
  pub before : EachBlockStands sample m (take broken.number blocks)
  pub block : BlockRecord
  pub at : slice_get blocks broken.number ≡ Some block
  pub breaks : IsFirstBlockFault (left_by_blocks m (take broken.number blocks)) sample block
      broken.fault

-- Laws.

-- where each record stands, each boundary is least
abbrev pub EachStandingIsLeast : Type 0
EachStandingIsLeast =
    (sample : Cells) (m : SourceMap) (blocks : List BlockRecord)
    → EachBlockStands sample m blocks → EachBlockIsLeast sample m blocks

-- where a record is the first broken one, not every record stands
abbrev pub BrokenBlockStandsNot : Type 0
BrokenBlockStandsNot =
    (sample : Cells) (m : SourceMap) (blocks : List BlockRecord) (broken : BrokenBlock)
    → IsFirstBrokenBlock sample m blocks broken → EachBlockStands sample m blocks → ⊥

-- two faults of a block are one
pub record AreOneBlockFault (fault other : BlockFault) : Type 0 where
  pub kind : fault.kind ≡ other.kind
  pub place : fault.place ≡ other.place

-- two first broken records are one, with one fault
pub record AreOneBrokenBlock (broken other : BrokenBlock) : Type 0 where
  pub number : broken.number ≡ other.number
  pub fault : AreOneBlockFault broken.fault other.fault

abbrev pub OneFirstBrokenBlock : Type 0
OneFirstBrokenBlock =
    (sample : Cells) (m : SourceMap) (blocks : List BlockRecord) (broken other : BrokenBlock)
    → IsFirstBrokenBlock sample m blocks broken → IsFirstBrokenBlock sample m blocks other
    → AreOneBrokenBlock broken other
