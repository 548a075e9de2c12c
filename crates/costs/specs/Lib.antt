pub mod Costs
pub mod Lawful
pub mod Intersections
pub mod Enclosures
pub mod Choosing
