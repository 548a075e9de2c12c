-- The state of the solver: level graphs, after Dinic, "Algorithm for solution of a problem of
-- maximum flow in networks with power estimation" (1970).
use Rattle.std.specs.Prelude.{◌≡◌, ◌<◌, ◌≤◌, ◌+◌, ◌⊎◌, ℕ, List, length, slice_index, nat_lt, count_by}
use Rattle.max_flow.specs.declared.network.Pipe.{Pipe}
use Rattle.max_flow.specs.Residual.{arc_count, tail, head, residual}

-- the level of a node, from 1 at the source; 0 where no search has come to it
abbrev pub level_of : List ℕ → ℕ → ℕ
level_of levels n = slice_index levels n

-- an arc with residual capacity that leads into the node from the level before
pub record LeadsTo (pipes : List Pipe) (backward levels : List ℕ) (node arc : ℕ) : Type 0 where
  pub arc_in : arc < arc_count pipes
  pub enters : head pipes arc ≡ node
  pub open_arc : 0 < residual pipes backward arc
  pub before : level_of levels (tail pipes arc) + 1 ≡ level_of levels node

-- a number for each node, at most as many as there are nodes, and 1 at the source
pub record AreLevelNumbers (nodes source : ℕ) (levels : List ℕ) : Type 0 where
  pub sized : length levels ≡ nodes
  pub first : level_of levels source ≡ 1
  pub limit : (n : ℕ) → level_of levels n ≤ nodes

-- levels from a source: each level but the first is led to from the one before
pub record AreLevels (pipes : List Pipe) (nodes source : ℕ)
    (backward levels : List ℕ) : Type 0 where
  pub numbers : AreLevelNumbers nodes source levels
  pub only : (n : ℕ) → level_of levels n ≡ 1 → n ≡ source
  pub led : (n : ℕ) → 1 < level_of levels n → (arc : ℕ) × LeadsTo pipes backward levels n arc

-- no arc with residual capacity leads from a node with a level to one without
abbrev pub IsClosed : List Pipe → List ℕ → List ℕ → Type 0
IsClosed pipes backward levels =
    (arc : ℕ) → arc < arc_count pipes → 0 < level_of levels (tail pipes arc) →
    0 < residual pipes backward arc
    → 0 < level_of levels (head pipes arc)

-- an arc of the level graph
pub record IsAdmissible (pipes : List Pipe) (backward levels : List ℕ) (arc : ℕ) : Type 0 where
  pub open_arc : 0 < residual pipes backward arc
  pub rises : level_of levels (head pipes arc) ≡ level_of levels (tail pipes arc) + 1

-- how many nodes have a level
abbrev pub levelled : List ℕ → ℕ
levelled levels = count_by (λ level. nat_lt 0 level) levels

-- all arcs of a node with residual capacity lead to nodes with a level
abbrev pub IsTried : List Pipe → List ℕ → List ℕ → ℕ → Type 0
IsTried pipes backward levels n =
    (arc : ℕ) → arc < arc_count pipes → tail pipes arc ≡ n → 0 < residual pipes backward arc
    → 0 < level_of levels (head pipes arc)

-- a search by breadth: nodes with a level wait, and all arcs of the others were tried
pub record IsSearch (pipes : List Pipe) (nodes source : ℕ) (backward levels waiting : List ℕ)
    : Type 0 where
  pub levels_sized : length levels ≡ nodes
  pub first : level_of levels source ≡ 1
  pub only : (n : ℕ) → level_of levels n ≡ 1 → n ≡ source
  pub led : (n : ℕ) → 1 < level_of levels n → (arc : ℕ) × LeadsTo pipes backward levels n arc
  pub limit : (n : ℕ) → level_of levels n ≤ levelled levels
  pub waits : (k : ℕ) → k < length waiting → 0 < level_of levels (slice_index waiting k)
  pub tried : (n : ℕ) → 0 < level_of levels n
      → ((k : ℕ) × (k < length waiting) × (slice_index waiting k ≡ n))
      ⊎ IsTried pipes backward levels n
