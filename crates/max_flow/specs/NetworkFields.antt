-- The state of a network: what its fields stand for.
use Rattle.std.specs.Prelude.{◌≢◌, ◌<◌, ◌≤◌, ◌-◌, ◌^◌, All, vec_len, vec_capacity}
use Rattle.max_flow.specs.declared.network.Network.TheInside.{Inside}
use Rattle.max_flow.specs.Networks.{FlowNetwork, IsPipeOf}

-- the network that the fields hold
abbrev pub network_of : Inside → FlowNetwork
network_of a = record {
  nodes = a.nodes;
  source = a.source;
  sink = a.sink;
  spare = vec_capacity a.pipes - vec_len a.pipes;
  pipes = a.pipes.items;
}

-- the ends are two nodes, each pipe is one of the network, and there is room for at most 2^32 pipes
pub record IsSoundNetwork (a : Inside) : Type 0 where
  pub source_in : a.source < a.nodes
  pub sink_in : a.sink < a.nodes
  pub ends_differ : a.source ≢ a.sink
  pub pipes : All (IsPipeOf a.nodes) a.pipes.items
  pub limit : vec_capacity a.pipes ≤ 2 ^ 32
