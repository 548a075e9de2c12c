-- A run so far, as the code keeps it, for the contracts within the crate. Nobody has to trust
-- this file. (Own.)
use Rattle.std.specs.Prelude.{◌≡◌, ◌≤◌, ◌<◌, is_none, ℕ, List, length, true, false, Bool, None, Result, Ok, Err}
use Rattle.std.specs.List.{position_or_len}
use Rattle.std.specs.declared.alloc.AllocError.{AllocError}
use Rattle.cells.specs.Cells.{Cells}
use Rattle.map_canvas.specs.Canvases.{IsCanvas, StandsOver}
use Rattle.map_canvas.specs.Maps.{SourceMap, first_unfilled}
use Rattle.torus.specs.Steps.{TileStep, tiling_of}
use Rattle.torus.specs.declared.plan.RunPlan.{RunPlan}
use Rattle.tile_run.specs.declared.tiling.Work.{Work}
use Rattle.torus.specs.Tilings.{IsTiled}

-- how many cells, from the first in raster order on, are filled
abbrev pub reached : SourceMap → ℕ
reached m = position_or_len is_none m.sources

-- the steps of a run so far; each fills a cell more
pub record IsWork (plan : RunPlan) (sample : Cells) (work : Work) : Type 0 where
  pub steps : List TileStep
  pub run : IsTiled plan sample steps (tiling_of work.canvas work.draws)
  pub count : work.placements ≡ length steps
  pub few : length steps ≤ reached work.canvas.map
  pub size_is : work.canvas.map.size ≡ plan.size
  pub over : StandsOver work.canvas sample
  pub canvas : IsCanvas work.canvas

-- one step more, or none where every cell is filled
abbrev pub Advances : RunPlan → Cells → Work → Work → Result Bool AllocError → Type 0
Advances plan sample was now (Ok true) =
    IsWork plan sample now × (reached was.canvas.map < reached now.canvas.map)
Advances plan sample was now (Ok false) =
    IsWork plan sample now × (first_unfilled now.canvas.map ≡ None)
Advances plan sample was now (Err error) = Unit {0}
