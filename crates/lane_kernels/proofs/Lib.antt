pub mod Bounds
pub mod Lanes
pub mod MaskedRows
pub mod Rows
