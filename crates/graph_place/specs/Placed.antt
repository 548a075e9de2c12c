-- To be trusted: what a placement by a graph cut leaves. (Kwatra et al. 2003.)
use Rattle.std.specs.Prelude.{◌≡◌, List, Bool, length}
use Rattle.cells.specs.Cells.{Cells}
use Rattle.cells.specs.Distances.{distance}
use Rattle.cells.specs.Places.{cell_count}
use Rattle.map_canvas.specs.declared.canvas.Placement.{Placement}
use Rattle.map_canvas.specs.Canvases.{CanvasState, StandsOver}
use Rattle.map_canvas.specs.Choices.{IsAfter, map_after}
use Rattle.boxes.specs.Pairs.{pair_count}
use Rattle.cut_check.specs.declared.record.CutRecord.{CutRecord}
use Rattle.cut_check.specs.Records.{CutStands}
use Rattle.least_choice.specs.Fewest.{IsFewestHeld}

-- the record is one of the placement and stands over the canvas before; its choice is the least one
-- with
-- the fewest old cells; the canvas after has the map after that choice, over the same sample
pub record IsPlaced (before : CanvasState) (sample : Cells) (placement : Placement)
    (held : List Bool) (after : CanvasState) (cut : CutRecord) : Type 0 where
  pub same_placement : cut.placement ≡ placement
  pub choice_count : length cut.choice ≡ cell_count placement.rect.size
  pub flow_count : length cut.flows ≡ pair_count placement.rect.size
  pub stands : CutStands (record { map = before.map; sample = sample; held = held }) cut
  pub fewest : IsFewestHeld (distance sample) before.map placement held cut.choice
  pub map : after.map ≡ map_after before.map placement cut.choice
  pub each : IsAfter before.map placement cut.choice after.map
  pub over : StandsOver after sample
