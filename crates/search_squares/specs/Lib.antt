pub mod Blocks
pub mod Gathered
pub mod Sums
pub mod Bounds
pub mod Eliminations
pub mod Lanes
pub mod Terms
