-- How far a record has come, for the contracts within the crate: the choice of a list of nodes, the
-- flows of the first cells' pairs, and the record of a solution. Nobody has to trust this file.
use Rattle.std.specs.Prelude.{◌≡◌, ◌<◌, ℕ, ℤ, Bool, false, not, List, [], ◌∷◌, ◌++◌, length, slice_index, slice_index_or, if◌then◌else◌}
use Rattle.cells.specs.declared.place.Axis.{Axis}
use Rattle.cells.specs.declared.place.Axis.TheVariants.{X, Y, F}
use Rattle.map_canvas.specs.declared.canvas.Placement.{Placement}
use Rattle.map_canvas.specs.Maps.{SourceMap}
use Rattle.boxes.specs.Pairs.{at_index, has_next}
use Rattle.max_flow.specs.declared.solver.Solved.{Solved}
use Rattle.max_flow.specs.Flows.{is_in}
use Rattle.max_flow.specs.Networks.{FlowNetwork}
use Rattle.max_flow.specs.Solutions.{IsSolution}
use Rattle.cut_graph.specs.declared.places.Places.{Places}
use Rattle.cut_graph.specs.Pipes.{joined}
use Rattle.cut_check.specs.declared.record.CutRecord.{CutRecord}
use Rattle.cut_check.specs.declared.record.Flow.{Flow}
use Rattle.graph_place.specs.Records.{flow_at_pair, IsRecordOf}

-- each entry says whether its node isn't on the source's side
pub record IsChoiceOf (nodes : List ℕ) (sides choice : List Bool) : Type 0 where
  pub count : length choice ≡ length nodes
  pub says : (i : ℕ) → i < length nodes
      → slice_index_or choice i false ≡ not (is_in sides (slice_index nodes i))

-- the flow of a cell and the next one along an axis, where the box has it
abbrev pub flow_along : SourceMap → Placement → Places → List ℤ → Axis → ℕ → ℕ → ℕ → List Flow
flow_along m placement places flows axis x y f =
    if has_next placement.rect.size axis x y f
    then flow_at_pair m placement places flows axis x y f ∷ [] else []

-- those of a cell and the next ones along X, Y and F
abbrev pub flows_from : SourceMap → Placement → Places → List ℤ → ℕ → ℕ → ℕ → List Flow
flows_from m placement places flows x y f =
    flow_along m placement places flows X x y f
    ++ (flow_along m placement places flows Y x y f ++ flow_along m placement places flows F x y f)

-- those of the cells before an index
abbrev pub flows_before : SourceMap → Placement → Places → List ℤ → ℕ → List Flow
flows_before m placement places flows =
    joined (at_index placement.rect.size (flows_from m placement places flows))

-- a solution of the network gives the record
pub record IsSolvedRecord (network : FlowNetwork) (m : SourceMap) (placement : Placement)
    (places : Places) (cut : CutRecord) : Type 0 where
  pub solved : Solved
  pub is : IsSolution network solved.flow solved.source_side solved.value
  pub gives : IsRecordOf m placement places solved cut
