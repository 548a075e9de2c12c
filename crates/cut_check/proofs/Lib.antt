pub mod Leaving
pub mod Duality
pub mod Least
pub mod Cells
pub mod PairBounds
pub mod Order
pub mod Parts
pub mod Fitting
pub mod NoFault
pub mod OneFrame
pub mod Still
pub mod Above
mod RowCells
pub mod Held
