pub mod Blocks
pub mod Records
pub mod Several
pub mod Steps
