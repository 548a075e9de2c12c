pub mod Near
pub mod Wholes
pub mod Boxes
pub mod Locality
pub mod Existence
pub mod Windows
pub mod Copies
pub mod Inside
pub mod Enclosed
pub mod MarkLaws
mod Choosing
