pub mod Turns
pub mod TurnedParts
pub mod TurnedPlaces
pub mod Copies
