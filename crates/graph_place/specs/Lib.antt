pub mod Records
pub mod Placed
pub mod Parts
