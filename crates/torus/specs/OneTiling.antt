-- A reader has to trust this file. What holds of all runs of tiling: there is one of a plan and a
-- sample, and each choice is least. (Own.)
use Rattle.std.specs.Prelude.{◌≡◌, List}
use Rattle.cells.specs.Cells.{Cells}
use Rattle.map_canvas.specs.Maps.{IsFull, empty_map}
use Rattle.torus.specs.Steps.{TileStep, Tiling}
use Rattle.torus.specs.declared.plan.RunPlan.{RunPlan}
use Rattle.torus.specs.Tilings.{EachTileIsLeast, EachTileKeeps, IsTiled}

-- two runs to full maps have the same steps, and leave the same
abbrev pub OneTiling : RunPlan → Cells → Type 0
OneTiling plan sample =
    (steps others : List TileStep) (tiling other : Tiling)
    → IsTiled plan sample steps tiling → IsFull tiling.map
    → IsTiled plan sample others other → IsFull other.map
    → (steps ≡ others) × (tiling ≡ other)

abbrev pub EachIsLeast : RunPlan → Cells → Type 0
EachIsLeast plan sample =
    (steps : List TileStep) (tiling : Tiling) → IsTiled plan sample steps tiling
    → EachTileIsLeast sample plan.tile.wrap (empty_map plan.size) steps

abbrev pub EachKeeps : RunPlan → Cells → Type 0
EachKeeps plan sample =
    (steps : List TileStep) (tiling : Tiling) → IsTiled plan sample steps tiling
    → EachTileKeeps plan.tile.wrap (empty_map plan.size) steps
