-- A reader has to trust this file. Flows and cuts of a network, after Ford and Fulkerson, "Maximal
-- flow through a network" (1956).
use Rattle.std.specs.Prelude.{◌≡◌, ◌≢◌, ◌<◌, ◌≤◌, ◌+◌, ◌==◌, ℕ, ℤ, pos, ◌+ℤ◌, ◌-ℤ◌, ◌≤ℤ◌, Bool, true, false, List, [], ◌∷◌, length, slice_index_or}
use Rattle.max_flow.specs.declared.network.Pipe.{Pipe}
use Rattle.max_flow.specs.Networks.{FlowNetwork, pipe_at}

-- a number that counts where a test holds
abbrev pub part_if : Bool → ℤ → ℤ
part_if true z = z
part_if false z = pos 0

-- the flow of the pipe of that number
abbrev pub pipe_flow : List ℤ → ℕ → ℤ
pipe_flow flows j = slice_index_or flows j (pos 0)

-- what leaves a set of nodes along the pipes, less what enters it
abbrev pub net_leaving : (ℕ → Bool) → List Pipe → List ℤ → ℤ
net_leaving side [] flows = pos 0
net_leaving side (pipe ∷ pipes) [] = pos 0
net_leaving side (pipe ∷ pipes) (flow ∷ flows) =
    (part_if (side pipe.from) flow -ℤ part_if (side pipe.to) flow) +ℤ net_leaving side pipes flows

-- a flow that a pipe can carry: it is within the capacity of its direction
pub record FitsPipe (pipe : Pipe) (flow : ℤ) : Type 0 where
  pub ahead : flow ≤ℤ pos pipe.ahead
  pub back : (pos 0 -ℤ pos pipe.back) ≤ℤ flow

-- a flow of a network: it fits each pipe, and at each node but the ends as much leaves as enters
pub record IsFlow (network : FlowNetwork) (flows : List ℤ) : Type 0 where
  pub sized : length flows ≡ length network.pipes
  pub fits : (j : ℕ) → j < length network.pipes
      → FitsPipe (pipe_at network.pipes j) (pipe_flow flows j)
  pub balance : (n : ℕ) → n ≢ network.source → n ≢ network.sink
      → net_leaving (λ k. k == n) network.pipes flows ≡ pos 0

-- the value of a flow: what leaves the source, less what enters it
abbrev pub flow_value : FlowNetwork → List ℤ → ℤ
flow_value network flows = net_leaving (λ k. k == network.source) network.pipes flows

-- whether a node is on the source's side of a cut
abbrev pub is_in : List Bool → ℕ → Bool
is_in sides n = slice_index_or sides n false

-- a cut: a side for each node, with the source on the source's side and the sink on the other
pub record IsCut (network : FlowNetwork) (sides : List Bool) : Type 0 where
  pub sized : length sides ≡ network.nodes
  pub source : is_in sides network.source ≡ true
  pub sink : is_in sides network.sink ≡ false

-- what a pipe can carry from the source's side to the other, where its ends are on these sides
abbrev pub crossing : Bool → Bool → Pipe → ℕ
crossing true true pipe = 0
crossing true false pipe = pipe.ahead
crossing false true pipe = pipe.back
crossing false false pipe = 0

-- what the pipes can carry out of a set of nodes
abbrev pub capacity_out : (ℕ → Bool) → List Pipe → ℕ
capacity_out side [] = 0
capacity_out side (pipe ∷ pipes) =
    crossing (side pipe.from) (side pipe.to) pipe + capacity_out side pipes

-- the capacity of a cut
abbrev pub cut_capacity : FlowNetwork → List Bool → ℕ
cut_capacity network sides = capacity_out (is_in sides) network.pipes

-- a cut such that no cut has a smaller capacity
pub record IsLeastCut (network : FlowNetwork) (sides : List Bool) : Type 0 where
  pub cut : IsCut network sides
  pub least : (other : List Bool) → IsCut network other
      → cut_capacity network sides ≤ cut_capacity network other

-- each node of the one source side is on the other
abbrev pub IsContained : List Bool → List Bool → Type 0
IsContained sides other = (n : ℕ) → is_in sides n ≡ true → is_in other n ≡ true
