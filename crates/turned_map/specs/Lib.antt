pub mod TurnedFiles
