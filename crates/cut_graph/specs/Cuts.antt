-- To be trusted: the network of a placement, and its cuts as choices. (Kwatra et al. 2003: the
-- least cut is the best seam.)
use Rattle.std.specs.Prelude.{◌≡◌, ◌≤◌, ℕ, Bool, not, List}
use Rattle.cells.specs.declared.place.At.{At}
use Rattle.cells.specs.Boxes.{cell_in}
use Rattle.map_canvas.specs.declared.canvas.Placement.{Placement}
use Rattle.map_canvas.specs.Maps.{SourceMap}
use Rattle.costs.specs.Lawful.{IsLawful, LeavesHeld, is_new, window_after}
use Rattle.boxes.specs.Pairs.{AreCounts}
use Rattle.max_flow.specs.Networks.{FlowNetwork}
use Rattle.max_flow.specs.Flows.{IsCut, cut_capacity, is_in}
use Rattle.cut_graph.specs.declared.places.Places.{Places}
use Rattle.cut_graph.specs.Nodes.{AreNodes, cell_node}
use Rattle.cut_graph.specs.Pipes.{AreFirstPipes, pipes_of}

-- the network of a placement: its nodes, its two ends, and its pipes
pub record IsNetworkOf (d : At → At → ℕ) (m : SourceMap) (placement : Placement) (held : List Bool)
    (network : FlowNetwork) (places : Places) : Type 0 where
  pub nodes : AreNodes m placement held places network.nodes
  pub source : network.source ≡ 0
  pub sink : network.sink ≡ 1
  pub pipes : network.pipes ≡ pipes_of d m placement places
  pub first : AreFirstPipes d m placement places

-- an admissible choice without a held cell
pub record IsLawfulHeld (m : SourceMap) (placement : Placement)
    (held choice : List Bool) : Type 0 where
  pub lawful : IsLawful m placement choice
  pub held_old : LeavesHeld placement held choice

-- the sides of a cut and a choice say the same: a cell is new where its node isn't on the source's
-- side
abbrev pub Agree : Placement → Places → List Bool → List Bool → Type 0
Agree placement places sides choice = (x y f : ℕ) → AreCounts placement.rect.size x y f
    → is_new placement choice (cell_in placement.rect x y f) ≡
    not (is_in sides (cell_node places placement.rect.size x y f))

-- what a cut says of each cell is an admissible choice without a held cell, and its capacity is at
-- least the window sum after it
abbrev pub CutsAreChoices : (At → At → ℕ) → SourceMap → Placement → List Bool → FlowNetwork →
    Places → Type 0
CutsAreChoices d m placement held network places = (sides choice : List Bool) →
    IsCut network sides → Agree placement places sides choice
    → IsLawfulHeld m placement held choice
    × (window_after d m placement choice ≤ cut_capacity network sides)

-- the cut of a choice whose seam nodes are on their best sides: its capacity is the window sum
pub record HasCut (d : At → At → ℕ) (m : SourceMap) (placement : Placement) (network : FlowNetwork)
    (places : Places) (choice : List Bool) : Type 0 where
  pub sides : List Bool
  pub cut : IsCut network sides
  pub agree : Agree placement places sides choice
  pub capacity : cut_capacity network sides ≡ window_after d m placement choice

-- for each admissible choice without a held cell the least capacity over the sides of the seam
-- nodes is the window sum after it
pub record ChoicesAreCuts (d : At → At → ℕ) (m : SourceMap) (placement : Placement)
    (held : List Bool) (network : FlowNetwork) (places : Places) : Type 0 where
  pub choices : CutsAreChoices d m placement held network places
  pub cuts : (choice : List Bool) → IsLawfulHeld m placement held choice →
      HasCut d m placement network places choice
