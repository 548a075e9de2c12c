pub mod Sums
pub mod Raster
pub mod Pairs
pub mod Walks
pub mod Spans
pub mod Rooms
pub mod FirstBoxes
