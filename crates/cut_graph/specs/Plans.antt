-- For the contracts within the crate; nobody has to trust this file. What the pipes of a placement
-- are made from, and how far they have come. (Own.)
use Rattle.std.specs.Prelude.{◌≡◌, ◌≤◌, ◌<◌, ◌+◌, ◌-◌, ◌*◌, ℕ, List, [], ◌++◌, None, length, slice_index, IfSome, vec_capacity}
use Rattle.cells.specs.declared.place.At.{At}
use Rattle.cells.specs.declared.place.Axis.{Axis}
use Rattle.cells.specs.declared.place.Axis.TheVariants.{X, Y, F}
use Rattle.cells.specs.Cells.{IsVolume}
use Rattle.cells.specs.Distances.{distance}
use Rattle.cells.specs.Places.{cell_count, raster_index}
use Rattle.map_canvas.specs.Choices.{Fits, new_source}
use Rattle.map_canvas.specs.declared.canvas.Placement.{Placement}
use Rattle.map_canvas.specs.Maps.{SourceMap, IsMap, IsSource, map_at}
use Rattle.cells.specs.Boxes.{cell_in}
use Rattle.boxes.specs.Pairs.{AreCounts, has_next, one_if, pair_count, pair_number}
use Rattle.max_flow.specs.Networks.{FlowNetwork}
use Rattle.max_flow.specs.declared.network.Pipe.{Pipe}
use Rattle.cut_graph.specs.declared.places.Places.{Places}
use Rattle.cut_graph.specs.declared.plan.PairCell.{PairCell}
use Rattle.cut_graph.specs.declared.plan.Plan.{Plan}
use Rattle.cut_graph.specs.declared.piping.Piping.{Piping}
use Rattle.cut_graph.specs.Pipes.{first_or_none, pair_pipes, pipes_along, pipes_before}
use Rattle.cut_graph.specs.Numberings.{AtPairs}

-- each cell whose node is the sink is unfilled
pub record AreSinksUnfilled (m : SourceMap) (placement : Placement)
    (cells : List ℕ) : Type 0 where
  pub each : (x y f : ℕ) → AreCounts placement.rect.size x y f →
      slice_index cells (raster_index placement.rect.size x y f) ≡ 1
      → map_at m (cell_in placement.rect x y f) ≡ None

-- the placement fits, and each cell and each pair of its box has an entry
pub record IsPlan (plan : Plan) : Type 0 where
  pub over : IsMap plan.map.now
  pub volume : IsVolume plan.sample.now
  pub fits : Fits plan.map.now.size plan.sample.now plan.placement
  pub cells_count : length plan.cells.now ≡ cell_count plan.placement.rect.size
  pub seams_count : length plan.seams.now ≡ pair_count plan.placement.rect.size
  pub unfilled : AreSinksUnfilled plan.map.now plan.placement plan.cells.now

-- the entries are nodes
pub record HasNodes (plan : Plan) (nodes : ℕ) : Type 0 where
  pub ends : 2 ≤ nodes
  pub cells_in : (k : ℕ) → slice_index plan.cells.now k < nodes
  pub seams_in : (k : ℕ) → slice_index plan.seams.now k < nodes

-- the cell at a place and at an index of the box
pub record IsCellAt (plan : Plan) (p : At) (i : ℕ) (cell : PairCell) : Type 0 where
  pub source : cell.before ≡ map_at plan.map.now p
  pub new : cell.after ≡ new_source plan.placement p
  pub own : cell.node ≡ slice_index plan.cells.now i

-- its sources have coordinates that a source may have
pub record HasSources (cell : PairCell) : Type 0 where
  pub source : IfSome cell.before IsSource
  pub new : IsSource cell.after

-- the pipes of a pair along an axis, by its two cells and its seam node
abbrev pub pipes_of_pair : Plan → Axis → PairCell → PairCell → ℕ → List Pipe
pipes_of_pair plan axis first second seam =
    pair_pipes (distance plan.sample.now) axis first.before second.before first.after second.after
    first.node second.node seam

-- the network with these pipes more
abbrev pub with_pipes : FlowNetwork → List Pipe → FlowNetwork
with_pipes network more = record network {
  spare = network.spare - length more;
  pipes = network.pipes ++ more;
}

-- the places of a plan, so far as its pipes go by them
abbrev pub places_of : Plan → Places
places_of plan = record { cell_nodes = plan.cells.now; seam_nodes = plan.seams.now; pipes = [] }

-- the pipes of a cell and the next one along an axis
abbrev pub along : Plan → Axis → ℕ → ℕ → ℕ → List Pipe
along plan = pipes_along (distance plan.sample.now) plan.map.now plan.placement (places_of plan)

-- those of the cells before an index
abbrev pub before : Plan → ℕ → List Pipe
before plan = pipes_before (distance plan.sample.now) plan.map.now plan.placement (places_of plan)

-- all those before a pair
abbrev pub up_to : Plan → Axis → ℕ → ℕ → ℕ → List Pipe
up_to plan X x y f = before plan (raster_index plan.placement.rect.size x y f)
up_to plan Y x y f = before plan (raster_index plan.placement.rect.size x y f) ++ along plan X x y f
up_to plan F x y f = (before plan (raster_index plan.placement.rect.size x y f)
    ++ along plan X x y f) ++ along plan Y x y f

-- where the pipes of a pair begin
abbrev pub IsFirst : Plan → Axis → ℕ → ℕ → ℕ → ℕ → Type 0
IsFirst plan axis x y f n = n ≡ first_or_none (along plan axis x y f)
    (length (up_to plan axis x y f))

-- the network has these pipes, which are those of the first n pairs, and there is room for the
-- others
pub record IsPiped (plan : Plan) (nodes : ℕ) (made : List Pipe) (n : ℕ)
    (piping : Piping) : Type 0 where
  pub size : piping.network.nodes ≡ nodes
  pub source : piping.network.source ≡ 0
  pub sink : piping.network.sink ≡ 1
  pub pipes : piping.network.pipes ≡ made
  pub room : 3 * pair_count plan.placement.rect.size ≤ piping.network.spare + 3 * n
  pub total : piping.count ≡ length made
  pub few : length made ≤ 3 * n
  pub number : length piping.first.items ≡ n
  pub space : vec_capacity piping.first ≡ pair_count plan.placement.rect.size
  pub firsts : AtPairs plan.placement.rect.size (IsFirst plan) piping.first.items

-- those of all pairs before one
abbrev pub IsPipedTo : Plan → ℕ → Axis → ℕ → ℕ → ℕ → Piping → Type 0
IsPipedTo plan nodes axis x y f = IsPiped plan nodes (up_to plan axis x y f)
    (pair_number plan.placement.rect.size axis x y f)

-- and those of that pair, where the box has it
abbrev pub IsPipedPast : Plan → ℕ → Axis → ℕ → ℕ → ℕ → Piping → Type 0
IsPipedPast plan nodes axis x y f =
    IsPiped plan nodes (up_to plan axis x y f ++ along plan axis x y f)
    (pair_number plan.placement.rect.size axis x y f + one_if
    (has_next plan.placement.rect.size axis x y f))
