-- A run so far, as the code keeps it, for the contracts within the crate. Nobody has to trust this
-- file. (Own.)
use Rattle.std.specs.Prelude.{All, ◌≡◌, ◌≤◌, ◌<◌, ◌*◌, ◌^◌, true, false, Bool, Result, Ok, Err}
use Rattle.std.specs.declared.alloc.AllocError.{AllocError}
use Rattle.cells.specs.Cells.{Cells}
use Rattle.map_canvas.specs.Canvases.{IsCanvas}
use Rattle.map_canvas.specs.Maps.{IsFull, empty_map}
use Rattle.block_strips.specs.Laid.{IsLaidByBlocks}
use Rattle.quilted.specs.Runs.{HaveOneFrame, QuiltsTo, Rating, first_quilting, quilting}
use Rattle.limits.specs.declared.bounds.TheConstants.{MOST_BOX_CELLS}
use Rattle.quilted.specs.declared.asked.QuiltRun.{QuiltRun}
use Rattle.quilt.specs.declared.work.QuiltWork.{QuiltWork}
use Rattle.quilted.specs.Costs.{IsFileBlock, all_boundaries, quilt_cost}
use Rattle.block_check.specs.Blocks.{block_cells}

pub record IsQuiltWork (rating : Rating) (asked : QuiltRun) (sample : Cells) (work : QuiltWork)
    : Type 0 where
  pub steps : QuiltsTo rating asked.plan sample (first_quilting asked.size asked.seed)
      work.blocks.items (quilting work.canvas.map work.draws)
  pub size : work.canvas.map.size ≡ asked.size
  pub pictures : HaveOneFrame work.canvas sample
  pub laid : IsLaidByBlocks asked.plan sample work.canvas.map
  pub canvas : IsCanvas work.canvas
  pub within : block_cells work.blocks.items ≤ MOST_BOX_CELLS
  pub boundaries : work.boundaries ≡ all_boundaries work.blocks.items
  pub few : work.boundaries ≤ 2 * block_cells work.blocks.items
  pub cost : work.cost ≡ quilt_cost sample (empty_map asked.size) work.blocks.items
  pub cheap : work.cost ≤ 2 ^ 33 * block_cells work.blocks.items
  pub each : All (IsFileBlock asked.size sample) work.blocks.items

-- one step more, or none where the canvas is full
abbrev pub QuiltAdvances :
    Rating → QuiltRun → Cells → QuiltWork → QuiltWork → Result Bool AllocError → Type 0
QuiltAdvances rating asked sample was now (Ok true) = IsQuiltWork rating asked sample now
    × (block_cells was.blocks.items < block_cells now.blocks.items)
QuiltAdvances rating asked sample was now (Ok false) =
    IsQuiltWork rating asked sample now × IsFull now.canvas.map
QuiltAdvances rating asked sample was now (Err error) = Unit {0}
