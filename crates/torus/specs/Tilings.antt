-- A reader has to trust this file. Runs of tiling. (Kwatra et al. 2003 lay patches until the
-- output is full; that its edges meet, and that each patch is laid for the first unfilled cell,
-- is own.)
use Rattle.std.specs.Prelude.{◌≡◌, ◌≤◌, ◌⊎◌, ℕ, List, [], ◌∷◌, length}
use Rattle.limits.specs.declared.bounds.TheConstants.{MOST_OUTPUT_CELLS}
use Rattle.cells.specs.declared.place.At.{At}
use Rattle.cells.specs.Cells.{Cells}
use Rattle.cells.specs.Distances.{distance}
use Rattle.cells.specs.Places.{HasAxes, IsInside, cell_count}
use Rattle.map_canvas.specs.Canvases.{IsCanvas, StandsOver}
use Rattle.map_canvas.specs.Maps.{IsFull, SourceMap, empty_map, map_at}
use Rattle.patch_picks.specs.Draws.{DrawState}
use Rattle.patch_picks.specs.Runs.{Leads}
use Rattle.job_words.specs.declared.tile.Wrap.{Wrap}
use Rattle.job_words.specs.TileWords.{IsWide}
use Rattle.torus.specs.Steps.{TileStep, TilesBy, Tiling, map_after_around}
use Rattle.torus.specs.Tiles.{IsInTile, IsKeptAround, IsLeastAround, after_around}
use Rattle.torus.specs.declared.plan.RunPlan.{RunPlan}
use Rattle.torus.specs.declared.plan.Tiled.{Tiled}

-- what a run asks for: an output within the limit, 3 cells at the least on each wrapped axis, and
-- patches of some
pub record IsRunPlan (plan : RunPlan) : Type 0 where
  pub axes : HasAxes plan.size
  pub cells : cell_count plan.size ≤ MOST_OUTPUT_CELLS
  pub wide : IsWide plan.tile.wrap plan.size
  pub side : 1 ≤ plan.tile.side

-- at first no cell is filled, and draw number 0 of the seed comes next
abbrev pub first_tiling : RunPlan → Tiling
first_tiling plan =
    record { map = empty_map plan.size; draws = record { seed = plan.seed; place = 0 } }

-- a run: steps from there on, and what they leave
abbrev pub IsTiled : RunPlan → Cells → List TileStep → Tiling → Type 0
IsTiled plan sample = Leads (TilesBy plan.tile sample) (first_tiling plan)

-- a fact of each step and the map that the steps before it leave
abbrev pub EachTile : Wrap → (SourceMap → TileStep → Type 0) → SourceMap → List TileStep → Type 0
EachTile wrap Is m [] = Unit {0}
EachTile wrap Is m (step ∷ steps) =
    Is m step × EachTile wrap Is (map_after_around m wrap step.placement step.choice) steps

-- each choice is least on the torus, among all that are admissible over the map before it
abbrev pub EachTileIsLeast : Cells → Wrap → SourceMap → List TileStep → Type 0
EachTileIsLeast sample wrap =
    EachTile wrap (λ m step. IsLeastAround (distance sample) m wrap step.placement step.choice)

-- a step leaves each kept cell, and each outside its box, the source that it had
abbrev pub KeepsAround : Wrap → SourceMap → TileStep → Type 0
KeepsAround wrap m step =
    (p : At) → IsKeptAround m wrap step.placement.rect p
    ⊎ (IsInside m.size p × (IsInTile wrap m.size step.placement.rect p → ⊥))
    → after_around m wrap step.placement step.choice p ≡ map_at m p

abbrev pub EachTileKeeps : Wrap → SourceMap → List TileStep → Type 0
EachTileKeeps wrap = EachTile wrap (KeepsAround wrap)

-- all that is left at the end: the whole run, to the first full map, and how many steps it has
pub record IsTiledTo (plan : RunPlan) (sample : Cells) (tiled : Tiled) : Type 0 where
  pub steps : List TileStep
  pub draws : DrawState
  pub run : IsTiled plan sample steps (record { map = tiled.canvas.map; draws = draws })
  pub full : IsFull tiled.canvas.map
  pub count : tiled.placements ≡ length steps
  pub size : tiled.canvas.map.size ≡ plan.size
  pub canvas : IsCanvas tiled.canvas
  pub over : StandsOver tiled.canvas sample
