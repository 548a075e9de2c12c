-- To be trusted: the nodes of the network of a placement. (Kwatra et al. 2003: two terminals for
-- old and new, a node for each
-- cell of the overlap, and a seam node between two cells that have a seam already. Node 0 is the
-- source and
-- stands for old, node 1 is the sink and stands for new.)
use Rattle.std.specs.Prelude.{◌≡◌, ◌≤◌, ◌<◌, ◌⊎◌, ◌+◌, ◌*◌, ℕ, Bool, List, None, length, slice_index}
use Rattle.cells.specs.declared.place.Size.{Size}
use Rattle.cells.specs.declared.place.Axis.{Axis}
use Rattle.cells.specs.Places.{cell_count, plus}
use Rattle.cells.specs.Neighbours.{unit_step}
use Rattle.cells.specs.Boxes.{cell_in}
use Rattle.map_canvas.specs.declared.canvas.Placement.{Placement}
use Rattle.map_canvas.specs.Maps.{SourceMap, IsFilled, map_at}
use Rattle.costs.specs.Lawful.{IsFree, StaysOld}
use Rattle.boxes.specs.Pairs.{AreCounts, IsPair, pair_count, pair_number}
use Rattle.cut_graph.specs.declared.places.Places.{Places}

-- the node of a cell, by its counts from the corner
abbrev pub cell_node : Places → Size → ℕ → ℕ → ℕ → ℕ
cell_node places size x y f = slice_index places.cell_nodes (x + size.w * (y + size.h * f))

-- the seam node of a cell and the next one along an axis
abbrev pub seam_node : Places → Size → Axis → ℕ → ℕ → ℕ → ℕ
seam_node places size axis x y f = slice_index places.seam_nodes (pair_number size axis x y f)

-- a pair with both cells filled, which has a seam
pub record HasSeam (m : SourceMap) (placement : Placement) (axis : Axis) (x y f : ℕ) : Type 0 where
  pub pair : IsPair placement.rect.size axis x y f
  pub first : IsFilled m (cell_in placement.rect x y f)
  pub second : IsFilled m (plus (cell_in placement.rect x y f) (unit_step axis))

-- a free cell of the box
pub record IsFreeAt (m : SourceMap) (placement : Placement) (held : List Bool)
    (x y f : ℕ) : Type 0 where
  pub counts : AreCounts placement.rect.size x y f
  pub free : IsFree m placement held (cell_in placement.rect x y f)

-- a node that is neither of the two ends
pub record IsInner (nodes n : ℕ) : Type 0 where
  pub above : 2 ≤ n
  pub below : n < nodes

-- what stands for a node: a free cell
pub record StandsForCell (m : SourceMap) (placement : Placement) (held : List Bool)
    (places : Places) (n : ℕ) : Type 0 where
  pub x : ℕ
  pub y : ℕ
  pub f : ℕ
  pub free : IsFreeAt m placement held x y f
  pub node : cell_node places placement.rect.size x y f ≡ n

-- or a seam
pub record StandsForSeam (m : SourceMap) (placement : Placement) (places : Places)
    (n : ℕ) : Type 0 where
  pub axis : Axis
  pub x : ℕ
  pub y : ℕ
  pub f : ℕ
  pub seam : HasSeam m placement axis x y f
  pub node : seam_node places placement.rect.size axis x y f ≡ n

-- the nodes of cells and seams: the ends for what can't be chosen, and a node of its own for each
-- free cell and each seam
pub record AreNodes (m : SourceMap) (placement : Placement) (held : List Bool) (places : Places)
    (nodes : ℕ) : Type 0 where
  pub ends : 2 ≤ nodes
  pub cell_nodes : length places.cell_nodes ≡ cell_count placement.rect.size
  pub seam_nodes : length places.seam_nodes ≡ pair_count placement.rect.size
  pub old : (x y f : ℕ) → AreCounts placement.rect.size x y f →
      StaysOld m placement held (cell_in placement.rect x y f)
      → cell_node places placement.rect.size x y f ≡ 0
  pub unfilled : (x y f : ℕ) → AreCounts placement.rect.size x y f →
      map_at m (cell_in placement.rect x y f) ≡ None
      → cell_node places placement.rect.size x y f ≡ 1
  pub free : (x y f : ℕ) → IsFreeAt m placement held x y f →
      IsInner nodes (cell_node places placement.rect.size x y f)
  pub seam : (axis : Axis) (x y f : ℕ) → HasSeam m placement axis x y f →
      IsInner nodes (seam_node places placement.rect.size axis x y f)
  pub no_seam : (axis : Axis) (x y f : ℕ) → IsPair placement.rect.size axis x y f →
      (HasSeam m placement axis x y f → ⊥)
      → seam_node places placement.rect.size axis x y f ≡ 0
  pub cells_apart : (x y f a b c : ℕ) → IsFreeAt m placement held x y f →
      IsFreeAt m placement held a b c
      → cell_node places placement.rect.size x y f ≡ cell_node places placement.rect.size a b c →
      (x ≡ a) × (y ≡ b) × (f ≡ c)
  pub seams_apart : (axis other : Axis) (x y f a b c : ℕ) → HasSeam m placement axis x y f →
      HasSeam m placement other a b c
      → seam_node places placement.rect.size axis x y f ≡
      seam_node places placement.rect.size other a b c → (axis ≡ other) × (x ≡ a) × (y ≡ b)
      × (f ≡ c)
  pub apart : (axis : Axis) (x y f a b c : ℕ) → HasSeam m placement axis x y f →
      IsFreeAt m placement held a b c
      → seam_node places placement.rect.size axis x y f ≡
      cell_node places placement.rect.size a b c → ⊥
  pub each : (n : ℕ) → IsInner nodes n → StandsForCell m placement held places n
      ⊎ StandsForSeam m placement places n
