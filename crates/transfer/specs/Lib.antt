pub mod Search
pub mod Weighing
