-- What a step leaves is the next step of the definition.
use Rattle.std.proofs.Common.{◌≡◌}
use Rattle.std.specs.Prelude.{Some}
use Rattle.cells.specs.declared.place.At.{At}
use Rattle.cells.specs.declared.place.Box3.{Box3}
use Rattle.cells.specs.Cells.{Cells}
use Rattle.map_canvas.specs.Canvases.{CanvasState}
use Rattle.map_canvas.specs.Maps.{IsMap, first_unfilled}
use Rattle.patch_picks.specs.Draws.{DrawState}
use Rattle.patch_picks.specs.Steps.{after_draw}
use Rattle.cut_check.specs.declared.record.CutRecord.{CutRecord}
use Rattle.job_words.specs.declared.tile.TilePlan.{TilePlan}
use Rattle.torus.specs.Boxes.{tile_box}
use Rattle.torus.specs.Choosing.{IsChosenAround, placed_around}
use Rattle.torus.specs.Filling.{IsTileBox}
use Rattle.torus.specs.Steps.{TilesBy, tiling_of}
use Rattle.torus.specs.Tiles.{IsAfterAround, IsInTile}
use Rattle.torus.proofs.OneSteps.{after_is}

pub step_made : (plan : TilePlan) (sample : Cells) (was now : CanvasState) (draws left : DrawState) (q : At) (rect : Box3) (cut : CutRecord) → first_unfilled was.map ≡ Some q → rect ≡ tile_box plan was.map.size sample.size q
    → IsTileBox plan.wrap was.map.size sample rect → IsInTile plan.wrap was.map.size rect q → IsChosenAround plan was.map sample draws rect cut → left ≡ after_draw draws
    → IsMap was.map → IsMap now.map → IsAfterAround was.map plan.wrap (placed_around rect cut.placement) cut.choice now.map
    → TilesBy plan sample (tiling_of was draws) (record { placement = placed_around rect cut.placement; choice = cut.choice }) (tiling_of now left)
step_made plan sample was now draws left q rect cut first box tile covers chosen drawn is is' after = record {
  next = record {
    q = q;
    first = first;
    box = box;
    picked = chosen.picked;
    takes = tile.takes;
    covers = covers;
    some = tile.some;
    sources = chosen.fits.1.sources;
  };
  choice_count = chosen.choice_count;
  fewest = chosen.fewest;
  map = after_is was.map now.map plan.wrap (placed_around rect cut.placement) cut.choice is is' after;
  draws = drawn;
}
