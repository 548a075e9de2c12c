-- To be trusted: the record that a solved network gives. (Own; the sides of the cells' nodes are
-- the choice, as in Kwatra et al. 2003.)
use Rattle.std.specs.Prelude.{◌≡◌, ◌≤◌, ◌<◌, ◌+◌, ◌^◌, ℕ, ℤ, pos, ◌-ℤ◌, ◌<ℤ◌, Bool, false, not, List, length, slice_index, slice_index_or, Option, Some, None}
use Rattle.cells.specs.declared.place.At.{At}
use Rattle.cells.specs.declared.place.Axis.{Axis}
use Rattle.cells.specs.Places.{cell_count, plus}
use Rattle.cells.specs.Neighbours.{unit_step}
use Rattle.cells.specs.Boxes.{cell_in}
use Rattle.map_canvas.specs.declared.canvas.Placement.{Placement}
use Rattle.map_canvas.specs.Maps.{SourceMap, map_at}
use Rattle.boxes.specs.Pairs.{pair_count, pair_number, IsPair}
use Rattle.max_flow.specs.declared.solver.Solved.{Solved}
use Rattle.max_flow.specs.Flows.{pipe_flow, is_in}
use Rattle.cut_graph.specs.declared.places.Places.{Places}
use Rattle.cut_graph.specs.Nodes.{AreNodes}
use Rattle.cut_graph.specs.Pipes.{AreFirstPipes}
use Rattle.cut_check.specs.declared.record.Flow.{Flow}
use Rattle.cut_check.specs.declared.record.CutRecord.{CutRecord}
use Rattle.cut_check.specs.Flows.{no_flow}

-- how many pipes a pair has, by the sources of its cells
abbrev pub pipe_count : Option At → Option At → ℕ
pipe_count (Some a) (Some b) = 3
pipe_count (Some a) None = 1
pipe_count None (Some b) = 1
pipe_count None None = 0

-- the flow of a pair in the record, where its first pipe has this index
abbrev pub flow_of : Option At → Option At → List ℤ → ℕ → Flow
flow_of (Some a) (Some b) flows first = record {
  x = pipe_flow flows first;
  y = pipe_flow flows (first + 1);
}
flow_of (Some a) None flows first = record { x = pipe_flow flows first; y = pos 0 }
flow_of None (Some b) flows first = record { x = pos 0; y = pos 0 -ℤ pipe_flow flows first }
flow_of None None flows first = no_flow

-- the index of the first pipe of a pair
abbrev pub pipe_of : Placement → Places → Axis → ℕ → ℕ → ℕ → ℕ
pipe_of placement places axis x y f = slice_index places.pipes
    (pair_number placement.rect.size axis x y f)

-- a number that is a flow of a record
abbrev pub IsSmallFlow : ℤ → Type 0
IsSmallFlow z = ((pos 0 -ℤ pos (2 ^ 15)) <ℤ z) × (z <ℤ pos (2 ^ 15))

-- there are flows of n pipes from one on, each of which a record can have
pub record HasFlows (flows : List ℤ) (first n : ℕ) : Type 0 where
  pub inside : first + n ≤ length flows
  pub small : (j : ℕ) → first ≤ j → j < first + n → IsSmallFlow (pipe_flow flows j)

-- the sources of a pair, and how many pipes it has
abbrev pub source_in : SourceMap → Placement → ℕ → ℕ → ℕ → Option At
source_in m placement x y f = map_at m (cell_in placement.rect x y f)

abbrev pub next_source : SourceMap → Placement → Axis → ℕ → ℕ → ℕ → Option At
next_source m placement axis x y f = map_at m (plus (cell_in placement.rect x y f) (unit_step axis))

abbrev pub pipes_at : SourceMap → Placement → Axis → ℕ → ℕ → ℕ → ℕ
pipes_at m placement axis x y f =
    pipe_count (source_in m placement x y f) (next_source m placement axis x y f)

-- the places name the nodes and pipes of a network of the placement; each of its nodes has a side,
-- and each
-- of its pipes a flow that a record can have
pub record IsSolvedFor (m : SourceMap) (placement : Placement) (places : Places)
    (solved : Solved) : Type 0 where
  pub d : At → At → ℕ
  pub held : List Bool
  pub count : ℕ
  pub nodes : AreNodes m placement held places count
  pub first : AreFirstPipes d m placement places
  pub sides : count ≤ length solved.source_side
  pub flows : (axis : Axis) (x y f : ℕ) → IsPair placement.rect.size axis x y f
      → HasFlows solved.flow (pipe_of placement places axis x y f) (pipes_at m placement axis x y f)

-- the flow of a pair by its pipes
abbrev pub flow_at_pair :
    SourceMap → Placement → Places → List ℤ → Axis → ℕ → ℕ → ℕ → Flow
flow_at_pair m placement places flows axis x y f =
    flow_of (source_in m placement x y f) (next_source m placement axis x y f) flows
    (pipe_of placement places axis x y f)

-- a cell is new where its node isn't on the source's side, and a pair has the flow of its pipes
pub record IsRecordOf (m : SourceMap) (placement : Placement) (places : Places) (solved : Solved)
    (cut : CutRecord) : Type 0 where
  pub same_placement : cut.placement ≡ placement
  pub choice_count : length cut.choice ≡ cell_count placement.rect.size
  pub choice : (i : ℕ) → i < cell_count placement.rect.size
      → slice_index_or cut.choice i false
      ≡ not (is_in solved.source_side (slice_index places.cell_nodes i))
  pub flow_count : length cut.flows ≡ pair_count placement.rect.size
  pub flows : (axis : Axis) (x y f : ℕ) → IsPair placement.rect.size axis x y f
      → slice_index_or cut.flows (pair_number placement.rect.size axis x y f) no_flow
      ≡ flow_at_pair m placement places solved.flow axis x y f
