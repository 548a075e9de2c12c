-- The state of the solver: the residual network of a flow, after Ford and Fulkerson. Pipe j has two
-- arcs: 2j from its first end to its second, and 2j + 1 the other way.
use Rattle.std.specs.Prelude.{◌≡◌, ◌≢◌, ◌<◌, ◌≤◌, ◌+◌, ◌-◌, ◌*◌, ◌/◌, ◌%◌, ◌==◌, ℕ, ℤ, pos, ◌+ℤ◌, ◌-ℤ◌, List, [], ◌∷◌, length, slice_index, if◌then◌else◌}
use Rattle.max_flow.specs.declared.network.Pipe.{Pipe}
use Rattle.max_flow.specs.Networks.{pipe_at}
use Rattle.max_flow.specs.Flows.{net_leaving, part_if}

-- how many arcs there are
abbrev pub arc_count : List Pipe → ℕ
arc_count pipes = 2 * length pipes

-- the node that an arc leaves
unfoldable pub tail : List Pipe → ℕ → ℕ
tail pipes arc =
    if arc % 2 == 0 then (pipe_at pipes (arc / 2)).from else (pipe_at pipes (arc / 2)).to

-- the node that an arc enters
unfoldable pub head : List Pipe → ℕ → ℕ
head pipes arc =
    if arc % 2 == 0 then (pipe_at pipes (arc / 2)).to else (pipe_at pipes (arc / 2)).from

-- what an arc can still carry, where `backward` has it for the arc against each pipe
unfoldable pub residual : List Pipe → List ℕ → ℕ → ℕ
residual pipes backward arc =
    if arc % 2 == 0
    then ((pipe_at pipes (arc / 2)).ahead + (pipe_at pipes (arc / 2)).back)
    - slice_index backward (arc / 2)
    else slice_index backward (arc / 2)

-- no arc can carry more both ways than its pipe's two capacities
pub record AreResiduals (pipes : List Pipe) (backward : List ℕ) : Type 0 where
  pub sized : length backward ≡ length pipes
  pub within : (j : ℕ) → j < length pipes
      → slice_index backward j ≤ (pipe_at pipes j).ahead + (pipe_at pipes j).back

-- the flows of the pipes
unfoldable pub flows_of : List Pipe → List ℕ → List ℤ
flows_of [] backward = []
flows_of (pipe ∷ pipes) [] = []
flows_of (pipe ∷ pipes) (against ∷ backward) =
    (pos against -ℤ pos pipe.back) ∷ flows_of pipes backward

-- what leaves a node, less what enters it
unfoldable pub excess : List Pipe → List ℕ → ℕ → ℤ
excess pipes backward n = net_leaving (λ k. k == n) pipes (flows_of pipes backward)

-- an amount more goes from one node to another
abbrev pub Moves : List Pipe → ℕ → ℕ → ℕ → List ℕ → List ℕ → Type 0
Moves pipes from to amount before after =
    (n : ℕ) → excess pipes after n
    ≡ (excess pipes before n +ℤ part_if (from == n) (pos amount)) -ℤ part_if (to == n) (pos amount)

-- a flow of that value, from the one node to the other
pub record Carries (pipes : List Pipe) (source sink : ℕ) (backward : List ℕ)
    (value : ℕ) : Type 0 where
  pub residuals : AreResiduals pipes backward
  pub leaves : excess pipes backward source ≡ pos value
  pub balance : (n : ℕ) → n ≢ source → n ≢ sink → excess pipes backward n ≡ pos 0

-- the most that all pipes can carry together
unfoldable pub total_capacity : List Pipe → ℕ
total_capacity [] = 0
total_capacity (pipe ∷ pipes) = (pipe.ahead + pipe.back) + total_capacity pipes

-- one more than the last arc that leaves a node among the arcs below a limit, or 0 where none does
pub record IsAfterLast (pipes : List Pipe) (node limit cursor : ℕ) : Type 0 where
  pub low : cursor ≤ limit
  pub none : (arc : ℕ) → cursor ≤ arc → arc < limit → tail pipes arc ≢ node
  pub here : 0 < cursor → tail pipes (cursor - 1) ≡ node

-- the chain of the arcs of each node: where it begins, and how it goes on after each arc
pub record AreChains (pipes : List Pipe) (nodes : ℕ) (last previous : List ℕ) : Type 0 where
  pub nodes_sized : length last ≡ nodes
  pub arcs_sized : length previous ≡ arc_count pipes
  pub begins : (n : ℕ) → n < nodes → IsAfterLast pipes n (arc_count pipes) (slice_index last n)
  pub goes_on : (arc : ℕ) → arc < arc_count pipes
      → IsAfterLast pipes (tail pipes arc) arc (slice_index previous arc)
