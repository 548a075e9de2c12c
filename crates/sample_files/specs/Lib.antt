pub mod Samples
pub mod Outputs
pub mod Several
pub mod Steps
pub mod Targets
pub mod Worked
