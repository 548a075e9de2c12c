-- For the contracts within the crate; nobody has to trust this file. How far the network of a
-- placement has come: the nodes of its first cells, of its first pairs, and the pipes of its
-- first pairs. (Own.)
use Rattle.std.specs.Prelude.{◌≡◌, ◌≤◌, ◌<◌, ◌+◌, ◌==◌, ℕ, Bool, true, false, not, List, [], ◌∷◌, ◌++◌, length, slice_index, None, if◌then◌else◌, vec_capacity, vec_len}
use Rattle.cells.specs.declared.place.At.{At}
use Rattle.cells.specs.declared.place.Size.{Size}
use Rattle.cells.specs.declared.place.Axis.{Axis}
use Rattle.map_canvas.specs.declared.canvas.Placement.{Placement}
use Rattle.map_canvas.specs.Maps.{SourceMap, IsFilled, map_at}
use Rattle.costs.specs.Lawful.{IsFree, StaysOld}
use Rattle.boxes.specs.Raster.{stride}
use Rattle.boxes.specs.Pairs.{at_index}
use Rattle.cut_graph.specs.declared.numbering.Numbering.{Numbering}
use Rattle.cut_graph.specs.declared.piping.Piping.{Piping}
use Rattle.cut_graph.specs.Pipes.{AreFirstPipes, pipes_of}
use Rattle.cells.specs.Places.{raster_index}
use Rattle.cells.specs.Boxes.{cell_in}
use Rattle.cut_graph.specs.Numberings.{AtPairs, IsNumbering}

-- a numbering with one node more, in the same room, and the next number that is free then
pub record Adds (node next : ℕ) (was now : Numbering) : Type 0 where
  pub items : now.nodes.items ≡ was.nodes.items ++ node ∷ []
  pub free : now.next ≡ next
  pub len : vec_len now.nodes ≡ vec_len was.nodes + 1
  pub room : vec_capacity now.nodes ≡ vec_capacity was.nodes

-- a numbering with one node more, of a kind, in the same room
pub record Gives (IsOne : ℕ → Type 0) (from : ℕ) (was now : Numbering) : Type 0 where
  pub node : ℕ
  pub one : IsOne node
  pub items : now.nodes.items ≡ was.nodes.items ++ node ∷ []
  pub numbering : IsNumbering from now.next now.nodes.items
  pub room : vec_capacity now.nodes ≡ vec_capacity was.nodes

-- what a cell of the box is to a choice
pub data Standing : Type 0 where
  Old : Standing
  Unfilled : Standing
  Free : Standing

-- whether it is that
abbrev pub IsStanding : SourceMap → Placement → List Bool → At → Standing → Type 0
IsStanding m placement held p Old = IsFilled m p × StaysOld m placement held p
IsStanding m placement held p Unfilled = map_at m p ≡ None
IsStanding m placement held p Free = IsFree m placement held p

-- the nodes that such a cell may have
abbrev pub IsNodeOf : Standing → ℕ → Type 0
IsNodeOf Old n = n ≡ 0
IsNodeOf Unfilled n = n ≡ 1
IsNodeOf Free n = 2 ≤ n

-- the node is one for the cell
pub record IsCellNode (m : SourceMap) (placement : Placement) (held : List Bool) (p : At)
    (n : ℕ) : Type 0 where
  pub standing : Standing
  pub is : IsStanding m placement held p standing
  pub node : IsNodeOf standing n

-- the first n cells have their nodes
pub record AreCellNodes (m : SourceMap) (placement : Placement) (held : List Bool) (n : ℕ)
    (cells : Numbering) : Type 0 where
  pub count : length cells.nodes.items ≡ n
  pub numbering : IsNumbering 2 cells.next cells.nodes.items
  pub each : (i : ℕ) → i < n
      → IsCellNode m placement held (at_index placement.rect.size (cell_in placement.rect) i)
      (slice_index cells.nodes.items i)

-- whether two cells are both filled, by their nodes
abbrev pub both_filled : List ℕ → ℕ → ℕ → Bool
both_filled cells i j = if slice_index cells i == 1 then false else not (slice_index cells j == 1)

-- whether a cell and the next one along an axis are
abbrev pub are_filled : List ℕ → Size → Axis → ℕ → ℕ → ℕ → Bool
are_filled cells size axis x y f = both_filled cells (raster_index size x y f)
    (raster_index size x y f + stride size axis)

-- the nodes that a pair may have, from the number of the first seam on, by whether both of its
-- cells are filled
abbrev pub IsSeamNode : ℕ → Bool → ℕ → Type 0
IsSeamNode middle true n = middle ≤ n
IsSeamNode middle false n = n ≡ 0

-- the first n pairs have their nodes
pub record AreSeamNodes (cells : List ℕ) (size : Size) (middle n : ℕ)
    (seams : Numbering) : Type 0 where
  pub count : length seams.nodes.items ≡ n
  pub numbering : IsNumbering middle seams.next seams.nodes.items
  pub each : AtPairs size (λ axis x y f.
      IsSeamNode middle (are_filled cells size axis x y f)) seams.nodes.items

-- the network has the pipes of all pairs between these nodes
pub record HasAllPipes (d : At → At → ℕ) (m : SourceMap) (placement : Placement)
    (cells seams : List ℕ) (nodes : ℕ) (piping : Piping) : Type 0 where
  pub size : piping.network.nodes ≡ nodes
  pub source : piping.network.source ≡ 0
  pub sink : piping.network.sink ≡ 1
  pub pipes : piping.network.pipes ≡ pipes_of d m placement
      (record { cell_nodes = cells; seam_nodes = seams; pipes = piping.first.items })
  pub first : AreFirstPipes d m placement
      (record { cell_nodes = cells; seam_nodes = seams; pipes = piping.first.items })
