-- A reader has to trust this file. Whole quilts. (Efros and Freeman 2001 lay blocks in raster order
-- until the output is full.)
use Rattle.std.specs.Prelude.{◌≡◌, ◌≤◌, ℕ, Result, Ok, Err}
use Rattle.cells.specs.Cells.{Cells, IsOnePart}
use Rattle.cells.specs.Places.{IsSmall}
use Rattle.map_canvas.specs.Canvases.{IsCanvas, StandsOver}
use Rattle.map_canvas.specs.Maps.{empty_map}
use Rattle.patch_picks.specs.Draws.{DrawState}
use Rattle.quilted.specs.Runs.{IsQuilted, Rating, BlocksReplay, quilting}
use Rattle.quilted.specs.declared.asked.QuiltRun.{QuiltRun}
use Rattle.quilted.specs.declared.asked.Quilted.{Quilted}
use Rattle.quilted.specs.declared.asked.QuiltError.{QuiltError}
use Rattle.quilted.specs.declared.asked.QuiltError.TheVariants.{Records, NoMemory}
use Rattle.quilted.specs.PlanLimit.{PlanPassesAt}
use Rattle.quilted.specs.Costs.{AreFileBlocks, all_boundaries, quilt_cost}

-- what quilting asks for: an output of one frame, blocks of at least one cell, and a sample of one
-- part and one frame, with cells of three samples
pub record CanBeQuilted (asked : QuiltRun) (sample : Cells) : Type 0 where
  pub small : IsSmall asked.size
  pub frame : asked.size.f ≡ 1
  pub block : 1 ≤ asked.plan.block
  pub samples : sample.k ≡ 3
  pub part : IsOnePart sample
  pub sample_frame : sample.size.f ≡ 1

-- all that is left at the end: the whole run, what its records leave, and what is reported of them
pub record IsQuilt (rating : Rating) (asked : QuiltRun) (sample : Cells) (quilted : Quilted)
    : Type 0 where
  pub draws : DrawState
  pub run : IsQuilted rating asked.plan sample asked.size asked.seed quilted.blocks
      (quilting quilted.canvas.map draws)
  pub size : quilted.canvas.map.size ≡ asked.size
  pub replays : BlocksReplay asked.plan sample (empty_map asked.size) quilted.blocks
      quilted.canvas.map
  pub canvas : IsCanvas quilted.canvas
  pub over : StandsOver quilted.canvas sample
  pub boundaries : quilted.boundaries ≡ all_boundaries quilted.blocks
  pub cost : quilted.cost ≡ quilt_cost sample (empty_map asked.size) quilted.blocks
  pub writable : AreFileBlocks asked.size sample quilted.blocks

-- the first box that takes the cells of all boxes past their bound, and these cells; it depends on
-- sizes and the plan alone
abbrev pub QuiltPassesAt : QuiltRun → Cells → ℕ → Type 0
QuiltPassesAt asked sample number = PlanPassesAt asked.plan asked.size sample.size number

-- why nothing is quilted
abbrev pub IsQuiltFault : QuiltRun → Cells → QuiltError → Type 0
IsQuiltFault asked sample (Records number) = QuiltPassesAt asked sample number
IsQuiltFault asked sample NoMemory = Unit {0}

-- what quilting answers
abbrev pub Quilts : Rating → QuiltRun → Cells → Result Quilted QuiltError → Type 0
Quilts rating asked sample (Ok quilted) = IsQuilt rating asked sample quilted
Quilts rating asked sample (Err error) = IsQuiltFault asked sample error
