pub mod Errors
pub mod Runs
pub mod Tables
pub mod Rows
pub mod LaidRows
