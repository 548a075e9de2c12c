pub mod Pipes
pub mod Nodes
pub mod Balance
pub mod Standing
pub mod Fewest
pub mod Recording
pub mod Solving
pub mod Placed
