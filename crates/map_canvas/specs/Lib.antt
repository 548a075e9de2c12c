pub mod Maps
pub mod Entries
pub mod Runs
pub mod Choices
pub mod CellErrors
pub mod Shown
pub mod Canvases
