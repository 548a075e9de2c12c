pub mod Readings
pub mod Heads
pub mod MapFiles
pub mod Waiting
pub mod Whole
