-- What a step has found on its small canvas, for a contract within the crate tile_run; nobody has
-- to trust this file. (Own.)
use Rattle.std.specs.Prelude.{◌≡◌, length}
use Rattle.cells.specs.declared.place.Box3.{Box3}
use Rattle.cells.specs.declared.place.Size.{Size}
use Rattle.cells.specs.Cells.{Cells}
use Rattle.cells.specs.Distances.{distance}
use Rattle.cells.specs.Places.{cell_count}
use Rattle.map_canvas.specs.declared.canvas.Placement.{Placement}
use Rattle.map_canvas.specs.Choices.{Fits}
use Rattle.map_canvas.specs.Maps.{SourceMap}
use Rattle.patch_picks.specs.Draws.{DrawState}
use Rattle.cut_check.specs.declared.record.CutRecord.{CutRecord}
use Rattle.job_words.specs.declared.tile.TilePlan.{TilePlan}
use Rattle.torus.specs.Tiles.{small_placement}
use Rattle.torus.specs.Steps.{IsFewestAround, IsTilePick}

-- the placement on the torus of one on the small canvas
abbrev pub placed_around : Box3 → Placement → Placement
placed_around rect placement = record { rect = rect; from = placement.from }

-- the record on the small canvas is that of the pick, with the least choice on the torus
pub record IsChosenAround (plan : TilePlan) (m : SourceMap) (sample : Cells) (draws : DrawState)
    (rect : Box3) (cut : CutRecord) : Type 0 where
  pub picked : IsTilePick plan m sample draws rect (placed_around rect cut.placement)
  pub fits : (output : Size)
      × Fits output sample (small_placement plan.wrap (placed_around rect cut.placement))
  pub choice_count : length cut.choice ≡ cell_count rect.size
  pub fewest : IsFewestAround (distance sample) m plan.wrap (placed_around rect cut.placement)
      cut.choice
