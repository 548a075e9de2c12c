pub mod BoxErrors
pub mod Overlaps
pub mod Spots
pub mod Tables
