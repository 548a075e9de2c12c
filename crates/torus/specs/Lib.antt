pub mod Wraps
pub mod Tiles
pub mod Boxes
pub mod Steps
pub mod Filling
pub mod Choosing
pub mod Tilings
pub mod OneTiling
