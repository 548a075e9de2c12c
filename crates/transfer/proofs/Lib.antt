pub mod Serving
pub mod SamePicks
pub mod Weighings
pub mod Picking
