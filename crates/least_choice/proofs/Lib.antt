pub mod OneChoice
pub mod Totals
pub mod Digits
mod Choices
pub mod LeastCuts
