-- What a record that stands has.
use Rattle.std.specs.Prelude.{Option, Some, None, Result, Ok, Err, OnOk}
use Rattle.cells.specs.Cells.{Cells}
use Rattle.map_canvas.specs.declared.canvas.Placement.{Placement}
use Rattle.map_canvas.specs.Maps.{SourceMap}
use Rattle.strip_boundary.specs.declared.boundary.BoundaryRecord.{BoundaryRecord}
use Rattle.strip_boundary.proofs.PathLaws.{least_path}
use Rattle.block_strips.specs.declared.side.Side.{Side}
use Rattle.block_strips.specs.declared.side.Side.TheVariants.{Left, Top}
use Rattle.block_check.specs.declared.block.BlockRecord.{BlockRecord}
use Rattle.block_check.specs.declared.check.BlockError.{BlockError}
use Rattle.block_check.specs.declared.check.BlockError.TheVariants.{Fault, NoMemory}
use Rattle.block_check.specs.Blocks.{strip_on}
use Rattle.block_check.specs.Records.{BlockIsLeast, Checks, ChecksJoin, JoinIsLeast, JoinStands, StandingBlockIsLeast}
use Rattle.block_check.specs.Steps.{ChecksStrip}

pub join_least : (side : Side) (m : SourceMap) (sample : Cells) (placement : Placement) (boundary : Option BoundaryRecord) → JoinStands side m sample placement boundary → JoinIsLeast side m sample placement boundary
join_least side m sample placement None stands = tt
join_least side m sample placement (Some it) stands = least_path (strip_on side m sample placement (Some it)) it.sums it.path stands.path stands.sums stands.cost

pub standing_is_least : StandingBlockIsLeast
standing_is_least m sample block stands = record {
  left = join_least Left m sample block.placement block.left stands.left;
  top = join_least Top m sample block.placement block.top stands.top;
}

pub checked_is_least : (m : SourceMap) (sample : Cells) (block : BlockRecord) (answer : Result (Unit {0}) BlockError) → Checks m sample block answer → OnOk answer (BlockIsLeast m sample block)
checked_is_least m sample block (Ok _) stands = standing_is_least m sample block stands
checked_is_least m sample block (Err e) checks = tt

-- the check of a boundary is that of its side
pub join_checked : (side : Side) (m : SourceMap) (sample : Cells) (placement : Placement) (it : BoundaryRecord) (answer : Result (Unit {0}) BlockError) → ChecksStrip (strip_on side m sample placement (Some it)) it answer → ChecksJoin side m sample placement (Some it) answer
join_checked side m sample placement it (Ok _) checks = checks
join_checked side m sample placement it (Err (Fault fault)) checks = checks
join_checked side m sample placement it (Err NoMemory) checks = tt
