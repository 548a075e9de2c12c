pub mod Strips
pub mod Boundaries
pub mod Records
pub mod Tables
