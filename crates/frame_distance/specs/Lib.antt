pub mod Frames
pub mod Tables
pub mod Steps
