-- What a placement leaves, by its network, the solution and the record.
use Rattle.std.specs.Prelude.{◌≡◌, Bool, List}
use Rattle.cells.specs.Cells.{Cells}
use Rattle.cells.specs.Distances.{distance}
use Rattle.map_canvas.specs.declared.canvas.Placement.{Placement}
use Rattle.map_canvas.specs.Canvases.{CanvasState, StandsOver}
use Rattle.map_canvas.specs.Choices.{Fits, IsAfter, map_after}
use Rattle.costs.proofs.Locality.{changes_as_window}
use Rattle.max_flow.specs.declared.solver.Solved.{Solved}
use Rattle.max_flow.specs.Networks.{FlowNetwork}
use Rattle.max_flow.specs.Solutions.{IsSolution}
use Rattle.cut_graph.specs.declared.places.Places.{Places}
use Rattle.cut_graph.specs.Cuts.{ChoicesAreCuts, IsNetworkOf}
use Rattle.cut_check.specs.declared.record.CutRecord.{CutRecord}
use Rattle.graph_place.specs.Records.{IsRecordOf}
use Rattle.graph_place.specs.Placed.{IsPlaced}
use Rattle.graph_place.proofs.Fewest.{fewest_held}
use Rattle.graph_place.proofs.Standing.{own_agree, own_open, own_value, record_stands}

pub placed : (before after : CanvasState) (sample : Cells) (placement : Placement) (held : List Bool) (network : FlowNetwork) (places : Places) (solved : Solved) (cut : CutRecord)
    → Fits before.map.size sample placement → IsNetworkOf (distance sample) before.map placement held network places → ChoicesAreCuts (distance sample) before.map placement held network places
    → IsSolution network solved.flow solved.source_side solved.value → IsRecordOf before.map placement places solved cut
    → after.map ≡ map_after before.map placement cut.choice → IsAfter before.map placement cut.choice after.map → StandsOver after sample
    → IsPlaced before sample placement held after cut
placed before after sample placement held network places solved cut fits net choices is rec made step over = record {
  same_placement = rec.same_placement;
  choice_count = rec.choice_count;
  flow_count = rec.flow_count;
  stands = record_stands before.map sample placement held network places net choices solved is cut rec fits;
  fewest = fewest_held (distance sample) before.map placement held network places choices solved.flow solved.source_side solved.value is cut.choice
      (own_agree (distance sample) before.map placement held network places choices solved is cut rec)
      (own_open (distance sample) before.map placement held network places choices solved is cut rec)
      (own_value (distance sample) before.map placement held network places choices solved is cut rec)
      (changes_as_window (distance sample) before.map placement fits.inside);
  map = made;
  each = step;
  over = over;
}
