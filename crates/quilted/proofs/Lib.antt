pub mod Laying
pub mod OneQuilt
pub mod Picking
pub mod Runs
pub mod More
pub mod Costing
pub mod Spots
mod Counting
mod RunBlocks
pub mod OneLimits
mod Boundaries
pub mod Reaching
