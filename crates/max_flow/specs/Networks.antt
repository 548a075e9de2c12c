-- A reader has to trust this file. Flow networks and their pipes, after Ford and Fulkerson,
-- "Maximal flow through a network" (1956).
use Rattle.std.specs.Prelude.{◌<◌, ◌≤◌, ◌-◌, ◌^◌, ℕ, List, [], ◌∷◌, ◌++◌, slice_index_or}
use Rattle.max_flow.specs.declared.network.Pipe.{Pipe}

-- nodes below a number, two of them the ends, a list of pipes, and room for so many more
pub record FlowNetwork : Type 0 where
  pub nodes : ℕ
  pub source : ℕ
  pub sink : ℕ
  pub spare : ℕ
  pub pipes : List Pipe

-- the ends of a pipe are nodes, and its capacities are at most 2^16
pub record IsPipeOf (nodes : ℕ) (pipe : Pipe) : Type 0 where
  pub from_in : pipe.from < nodes
  pub to_in : pipe.to < nodes
  pub ahead_limit : pipe.ahead ≤ 2 ^ 16
  pub back_limit : pipe.back ≤ 2 ^ 16

-- a network without pipes
abbrev pub empty_network : ℕ → ℕ → ℕ → ℕ → FlowNetwork
empty_network n s t room = record { nodes = n; source = s; sink = t; spare = room; pipes = [] }

-- the network with one pipe more, which takes one place of its room
abbrev pub with_pipe : FlowNetwork → Pipe → FlowNetwork
with_pipe network pipe =
    record network { spare = network.spare - 1; pipes = network.pipes ++ pipe ∷ [] }

-- what stands for a pipe past the end of a list
abbrev pub no_pipe : Pipe
no_pipe = record { from = 0; to = 0; ahead = 0; back = 0 }

-- the pipe of that number
abbrev pub pipe_at : List Pipe → ℕ → Pipe
pipe_at pipes j = slice_index_or pipes j no_pipe
