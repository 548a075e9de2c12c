pub mod Bounds
pub mod Rows
pub mod Joining
pub mod Aims
pub mod Rooms
