pub mod Draws
pub mod Lists
pub mod Modes
pub mod Counts
pub mod Fitting
pub mod Picks
pub mod Steps
pub mod Runs
