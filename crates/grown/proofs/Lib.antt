pub mod OneRound
pub mod Nexts
pub mod Stepping
pub mod Splitting
pub mod OneRuns
pub mod Raising
mod Spots
mod Counting
mod SomePick
pub mod Reaching
