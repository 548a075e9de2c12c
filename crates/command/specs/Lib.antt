pub mod Commands
pub mod Writing
pub mod Faults
pub mod Stages
pub mod Outcomes
pub mod Promises
