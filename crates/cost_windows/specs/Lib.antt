pub use Rattle.boxes.specs.Pairs
pub use Rattle.costs.specs.Costs
pub use Rattle.costs.specs.Lawful
pub mod Windows
pub mod Tables
pub mod Slides
pub mod Tops
