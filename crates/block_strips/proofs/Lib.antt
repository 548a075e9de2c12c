mod Along
pub mod Boxes
mod Fronts
pub mod Laying
mod Errors
