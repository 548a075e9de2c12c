pub mod Rounds
pub mod Grown
pub mod OneRun
pub mod BoxLimit
pub mod Counted
