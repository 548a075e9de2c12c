-- A reader has to trust this file. Quilts, block by block. (Efros and Freeman 2001 pick a block
-- that fits what is there, and cut along least boundaries; which block is drawn, and which of
-- several least boundaries is taken, is own.)
use Rattle.std.specs.Prelude.{◌≡◌, ◌≤◌, ℕ, List, [], ◌∷◌, Option, Some, None, IsSome, Result, Ok, Err}
use Rattle.std.specs.declared.alloc.AllocError.{AllocError}
use Rattle.cells.specs.declared.place.Size.{Size}
use Rattle.cells.specs.Cells.{Cells, IsOnePart}
use Rattle.map_canvas.specs.declared.canvas.Placement.{Placement}
use Rattle.map_canvas.specs.Canvases.{CanvasState, StandsOver}
use Rattle.map_canvas.specs.Choices.{Fits}
use Rattle.map_canvas.specs.Maps.{IsFull, SourceMap, empty_map, first_unfilled}
use Rattle.match_error.specs.declared.error.Error.{Error}
use Rattle.match_error.specs.Errors.{error_of}
use Rattle.patch_picks.specs.Draws.{DrawState}
use Rattle.patch_picks.specs.Lists.{fit_list, part_lists}
use Rattle.patch_picks.specs.Picks.{IsPick}
use Rattle.patch_picks.specs.Steps.{after_draw}
use Rattle.strip_boundary.specs.declared.boundary.BoundaryRecord.{BoundaryRecord}
use Rattle.strip_boundary.specs.Boundaries.{IsFirstLeast}
use Rattle.strip_boundary.specs.Records.{AreTightSums, BoundaryStands}
use Rattle.strip_boundary.specs.Strips.{ErrorTable}
use Rattle.block_strips.specs.declared.plan.QuiltPlan.{QuiltPlan}
use Rattle.block_strips.specs.declared.side.Side.{Side}
use Rattle.block_strips.specs.declared.side.Side.TheVariants.{Left, Top}
use Rattle.block_strips.specs.Blocks.{next_box, shared_cols}
use Rattle.block_strips.specs.Laid.{IsLaidByBlocks}
use Rattle.block_strips.specs.Strips.{strip_of}
use Rattle.block_check.specs.declared.block.BlockRecord.{BlockRecord}
use Rattle.block_check.specs.Blocks.{after_block}
use Rattle.block_check.specs.Several.{EachBlockIsLeast, EachBlockStands, left_by_blocks}

-- a canvas and a sample of one frame, with cells of three samples, where the canvas stands over the
-- sample
pub record HaveOneFrame (canvas : CanvasState) (sample : Cells) : Type 0 where
  pub over : StandsOver canvas sample
  pub samples : sample.k ≡ 3
  pub part : IsOnePart sample
  pub output_frame : canvas.map.size.f ≡ 1
  pub sample_frame : sample.size.f ≡ 1

-- the boundary through a strip: the first least one, with tight sums; none where the strip has no
-- columns
pub record IsBoundaryOf (strip : ErrorTable) (boundary : BoundaryRecord) : Type 0 where
  pub some : 1 ≤ strip.cols
  pub first : IsFirstLeast strip boundary.path
  pub tight : AreTightSums strip boundary.sums
  pub stands : BoundaryStands strip boundary

abbrev pub JoinsBy : ErrorTable → Option BoundaryRecord → Type 0
JoinsBy strip None = strip.cols ≡ 0
JoinsBy strip (Some boundary) = IsBoundaryOf strip boundary

-- the strip on a side of a plan's block
abbrev pub plan_strip : Side → QuiltPlan → SourceMap → Cells → Placement → ErrorTable
plan_strip side plan m sample placement = strip_of side m sample placement
    (shared_cols side plan m.size sample.size placement.rect)

-- the record of the block of a placement, with a boundary through each of its strips
pub record IsLaidBlock (plan : QuiltPlan) (m : SourceMap) (sample : Cells) (placement : Placement)
    (block : BlockRecord) : Type 0 where
  pub placed : block.placement ≡ placement
  pub left : JoinsBy (plan_strip Left plan m sample placement) block.left
  pub top : JoinsBy (plan_strip Top plan m sample placement) block.top

-- the map, and the next draw
pub record Quilting : Type 0 where
  pub map : SourceMap
  pub draws : DrawState

abbrev pub quilting : SourceMap → DrawState → Quilting
quilting m draws = record { map = m; draws = draws }

-- how a placement is rated over a map: an error per cell that counts, where less is better
abbrev pub Rating : Type 0
Rating = SourceMap → Placement → Error

-- quilts rate a placement by its overlap error
abbrev pub by_overlap : Cells → Rating
by_overlap sample m = error_of m sample

-- a step: the next block of the plan, picked by the next draw among all places of the sample from
-- which it fits, by their ratings, with its boundaries
pub record QuiltsBy (rating : Rating) (plan : QuiltPlan) (sample : Cells) (before : Quilting)
    (block : BlockRecord) (after : Quilting) : Type 0 where
  pub next : next_box plan before.map sample ≡ Some block.placement.rect
  pub pick : IsPick (rating before.map) (Some plan.tol)
      (part_lists (fit_list block.placement.rect) sample) before.draws block.placement
  pub fits : Fits before.map.size sample block.placement
  pub laid : IsLaidBlock plan before.map sample block.placement block
  pub map : after.map ≡ after_block before.map block
  pub draws : after.draws ≡ after_draw before.draws

-- what the answer of a step means
abbrev pub LaysNext : Rating → QuiltPlan → Cells → Quilting → Quilting
    → Result (Option BlockRecord) AllocError → Type 0
LaysNext rating plan sample before after (Ok None) = IsFull before.map × (after ≡ before)
LaysNext rating plan sample before after (Ok (Some block)) =
    QuiltsBy rating plan sample before block after
LaysNext rating plan sample before after (Err error) =
    IsSome (first_unfilled before.map) × (after ≡ before)

-- steps from a quilt so far, and what they leave
abbrev pub QuiltsTo : Rating → QuiltPlan → Cells → Quilting → List BlockRecord → Quilting
    → Type 0
QuiltsTo rating plan sample before [] after = after ≡ before
QuiltsTo rating plan sample before (block ∷ blocks) after =
    (next : Quilting) × (QuiltsBy rating plan sample before block next
    × QuiltsTo rating plan sample next blocks after)

-- at first no cell is filled, and draw number 0 of the seed comes next
abbrev pub first_quilting : Size → ℕ → Quilting
first_quilting size seed =
    quilting (empty_map size) (record { seed = seed; place = 0 })

-- a quilted run: steps from there on to a full map
pub record IsQuilted (rating : Rating) (plan : QuiltPlan) (sample : Cells) (size : Size)
    (seed : ℕ) (blocks : List BlockRecord) (after : Quilting) : Type 0 where
  pub run : QuiltsTo rating plan sample (first_quilting size seed) blocks after
  pub full : IsFull after.map

-- Laws.

-- what a run of steps leaves is what its records leave, each of which stands and has least
-- boundaries
pub record BlocksReplay (plan : QuiltPlan) (sample : Cells) (before : SourceMap)
    (blocks : List BlockRecord) (after : SourceMap) : Type 0 where
  pub left : left_by_blocks before blocks ≡ after
  pub stand : EachBlockStands sample before blocks
  pub least : EachBlockIsLeast sample before blocks
  pub laid : IsLaidByBlocks plan sample after

abbrev pub QuiltsReplay : QuiltPlan → Cells → Size → Type 0
QuiltsReplay plan sample size =
    (rating : Rating) (seed : ℕ) (blocks : List BlockRecord) (after : Quilting)
    → QuiltsTo rating plan sample (first_quilting size seed) blocks after
    → BlocksReplay plan sample (empty_map size) blocks after.map

-- of a rating, a plan, a sample, a size and a seed there is one quilted run
abbrev pub OneQuilt : QuiltPlan → Cells → Size → Type 0
OneQuilt plan sample size =
    (rating : Rating) (seed : ℕ) (blocks others : List BlockRecord) (after other : Quilting)
    → IsQuilted rating plan sample size seed blocks after
    → IsQuilted rating plan sample size seed others other
    → (blocks ≡ others) × (after ≡ other)
