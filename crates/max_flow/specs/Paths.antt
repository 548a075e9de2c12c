-- The state of the solver: paths in a level graph, and the current arc of each node.
use Rattle.std.specs.Prelude.{◌≡◌, ◌≢◌, ◌<◌, ◌≤◌, ◌+◌, ◌-◌, ℕ, List, length, slice_index}
use Rattle.max_flow.specs.declared.network.Pipe.{Pipe}
use Rattle.max_flow.specs.Residual.{arc_count, tail, head, residual}
use Rattle.max_flow.specs.Levels.{level_of, IsAdmissible}

-- the node to which the first `depth` arcs of a path lead from the source
pub record LeadsFrom (pipes : List Pipe) (source : ℕ) (path : List ℕ)
    (depth node : ℕ) : Type 0 where
  pub begins : depth ≡ 0 → node ≡ source
  pub enters : 0 < depth → head pipes (slice_index path (depth - 1)) ≡ node

-- an arc of a path: it begins where the path has led, and rises by one level
pub record IsPathArc (pipes : List Pipe) (source : ℕ) (backward levels path : List ℕ)
    (k : ℕ) : Type 0 where
  pub arc_in : slice_index path k < arc_count pipes
  pub open_arc : 0 < residual pipes backward (slice_index path k)
  pub joined : LeadsFrom pipes source path k (tail pipes (slice_index path k))
  pub low : level_of levels (tail pipes (slice_index path k)) ≡ k + 1
  pub high : level_of levels (head pipes (slice_index path k)) ≡ k + 2

-- a path from the source in the level graph
abbrev pub IsPath : List Pipe → ℕ → List ℕ → List ℕ → List ℕ → ℕ → Type 0
IsPath pipes source backward levels path depth =
    (k : ℕ) → k < depth → IsPathArc pipes source backward levels path k

-- the current arc of each node is one more than one of its arcs, or 0
pub record AreCurrent (pipes : List Pipe) (nodes : ℕ) (current : List ℕ) : Type 0 where
  pub sized : length current ≡ nodes
  pub low : (n : ℕ) → slice_index current n ≤ arc_count pipes
  pub here : (n : ℕ) → 0 < slice_index current n → tail pipes (slice_index current n - 1) ≡ n

-- an arc of the level graph that was passed over leads to a node other than the sink, all of whose
-- arcs were passed over
abbrev pub PassedAreDead : List Pipe → ℕ → List ℕ → List ℕ → List ℕ → Type 0
PassedAreDead pipes sink backward levels current =
    (arc : ℕ) → arc < arc_count pipes → slice_index current (tail pipes arc) ≤ arc
    → IsAdmissible pipes backward levels arc
    → (slice_index current (head pipes arc) ≡ 0) × (head pipes arc ≢ sink)
