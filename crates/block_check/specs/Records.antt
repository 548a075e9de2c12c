-- A reader has to trust this file. When the record of a block stands over a map, and else the first
-- rule that it breaks. (Own.)
use Rattle.std.specs.Prelude.{◌≡◌, ◌/◌, ◌%◌, ◌⊎◌, ◌↔◌, ℕ, Option, IfSome, MatchOption, Result, Ok, Err}
use Rattle.cells.specs.Cells.{Cells}
use Rattle.cells.specs.Places.{cell_count}
use Rattle.cells.specs.Firsts.{Each, IsFirstWithout}
use Rattle.map_canvas.specs.declared.canvas.Placement.{Placement}
use Rattle.map_canvas.specs.Choices.{Fits, box_cell}
use Rattle.map_canvas.specs.Maps.{IsFilled, SourceMap}
use Rattle.strip_boundary.specs.declared.boundary.BoundaryRecord.{BoundaryRecord}
use Rattle.strip_boundary.specs.declared.check.BlockFault.{BlockFault}
use Rattle.strip_boundary.specs.Boundaries.{IsLeastBoundary}
use Rattle.strip_boundary.specs.Records.{BoundaryStands, IsFirstBoundaryFault}
use Rattle.block_strips.specs.declared.side.Side.{Side}
use Rattle.block_strips.specs.declared.side.Side.TheVariants.{Left, Top}
use Rattle.block_check.specs.declared.block.BlockRecord.{BlockRecord}
use Rattle.block_check.specs.declared.check.BlockError.{BlockError}
use Rattle.block_check.specs.declared.check.BlockError.TheVariants.{Fault, NoMemory}
use Rattle.block_check.specs.declared.check.TheConstants.{FIT_RULE, OVERLAP_RULE}
use Rattle.block_check.specs.Blocks.{IsInStrip, strip_on}

-- rule 8 at a cell of the block, by its index: it is filled exactly where a strip has it
abbrev pub OverlapsAt : SourceMap → BlockRecord → ℕ → Type 0
OverlapsAt m block i = IsFilled m (box_cell block.placement i) ↔ IsInStrip block
    (i % block.placement.rect.size.w)
    (i / block.placement.rect.size.w % block.placement.rect.size.h)

abbrev pub OverlapsAll : SourceMap → BlockRecord → Type 0
OverlapsAll m block = Each (cell_count block.placement.rect.size) (OverlapsAt m block)

-- the boundary on a side, if there is one, stands for its strip
abbrev pub JoinStands :
    Side → SourceMap → Cells → Placement → Option BoundaryRecord → Type 0
JoinStands side m sample placement boundary =
    IfSome boundary (BoundaryStands (strip_on side m sample placement boundary))

-- there is one, which breaks a rule first there
abbrev pub IsJoinFault :
    Side → SourceMap → Cells → Placement → Option BoundaryRecord → BlockFault → Type 0
IsJoinFault side m sample placement boundary fault = MatchOption boundary ⊥
    (λ it. IsFirstBoundaryFault (strip_on side m sample placement boundary) it fault)

-- the boundary on a side, if there is one, is least of all boundaries of its strip
abbrev pub JoinIsLeast :
    Side → SourceMap → Cells → Placement → Option BoundaryRecord → Type 0
JoinIsLeast side m sample placement boundary =
    IfSome boundary (λ it. IsLeastBoundary (strip_on side m sample placement boundary) it.path)

-- the rules before those of boundaries
pub record OverlapsRight (m : SourceMap) (sample : Cells) (block : BlockRecord) : Type 0 where
  pub fits : Fits m.size sample block.placement
  pub overlaps : OverlapsAll m block

-- the record stands
pub record BlockStands (m : SourceMap) (sample : Cells) (block : BlockRecord) : Type 0 where
  pub right : OverlapsRight m sample block
  pub left : JoinStands Left m sample block.placement block.left
  pub top : JoinStands Top m sample block.placement block.top

-- each of its boundaries is least
pub record BlockIsLeast (m : SourceMap) (sample : Cells) (block : BlockRecord) : Type 0 where
  pub left : JoinIsLeast Left m sample block.placement block.left
  pub top : JoinIsLeast Top m sample block.placement block.top

-- rule 7: the placement doesn't fit
pub record BlockBreaksFit (m : SourceMap) (sample : Cells) (block : BlockRecord)
    (fault : BlockFault) : Type 0 where
  pub kind : fault.kind ≡ FIT_RULE
  pub place : fault.place ≡ 0
  pub outside : Fits m.size sample block.placement → ⊥

-- rule 8: a cell of a strip that isn't filled, or a filled cell in no strip
pub record BreaksOverlap (m : SourceMap) (sample : Cells) (block : BlockRecord)
    (fault : BlockFault) : Type 0 where
  pub kind : fault.kind ≡ OVERLAP_RULE
  pub fits : Fits m.size sample block.placement
  pub place : IsFirstWithout (cell_count block.placement.rect.size) (OverlapsAt m block) fault.place

-- rules 9 to 11: those of the left strip, and then those of the top strip
pub record BreaksLeft (m : SourceMap) (sample : Cells) (block : BlockRecord)
    (fault : BlockFault) : Type 0 where
  pub right : OverlapsRight m sample block
  pub broken : IsJoinFault Left m sample block.placement block.left fault

pub record BreaksTop (m : SourceMap) (sample : Cells) (block : BlockRecord)
    (fault : BlockFault) : Type 0 where
  pub right : OverlapsRight m sample block
  pub left : JoinStands Left m sample block.placement block.left
  pub broken : IsJoinFault Top m sample block.placement block.top fault

-- the first broken rule, and the first place where it is broken
abbrev pub IsFirstBlockFault : SourceMap → Cells → BlockRecord → BlockFault → Type 0
IsFirstBlockFault m sample block fault =
    BlockBreaksFit m sample block fault ⊎ (BreaksOverlap m sample block fault
    ⊎ (BreaksLeft m sample block fault ⊎ BreaksTop m sample block fault))

-- what a check answers; out of memory has no cause
abbrev pub Checks : SourceMap → Cells → BlockRecord → Result (Unit {0}) BlockError → Type 0
Checks m sample block (Ok _) = BlockStands m sample block
Checks m sample block (Err (Fault fault)) = IsFirstBlockFault m sample block fault
Checks m sample block (Err NoMemory) = Unit {0}

-- what the check of one side answers
abbrev pub ChecksJoin :
    Side → SourceMap → Cells → Placement → Option BoundaryRecord
    → Result (Unit {0}) BlockError → Type 0
ChecksJoin side m sample placement boundary (Ok _) = JoinStands side m sample placement boundary
ChecksJoin side m sample placement boundary (Err (Fault fault)) =
    IsJoinFault side m sample placement boundary fault
ChecksJoin side m sample placement boundary (Err NoMemory) = Unit {0}

-- Laws.

-- a record that stands has least boundaries
abbrev pub StandingBlockIsLeast : Type 0
StandingBlockIsLeast =
    (m : SourceMap) (sample : Cells) (block : BlockRecord) → BlockStands m sample block
    → BlockIsLeast m sample block

-- and breaks no rule
abbrev pub StandingBlockBreaksNone : Type 0
StandingBlockBreaksNone =
    (m : SourceMap) (sample : Cells) (block : BlockRecord) (fault : BlockFault)
    → BlockStands m sample block → IsFirstBlockFault m sample block fault → ⊥
