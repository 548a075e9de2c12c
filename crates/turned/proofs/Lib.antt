pub mod Turns
pub mod TurnedLists
pub mod TurnedCells
pub mod TurnedPlaces
pub mod Copying
