pub mod Nodes
pub mod Pipes
pub mod Cuts
pub mod Numberings
pub mod Building
pub mod Plans
