pub mod Entries
pub mod TurnedAgain
pub mod TurnedSpelled
