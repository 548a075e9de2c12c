pub mod Walks
pub mod Tables
pub mod FirstWalks
pub mod Records
pub mod Products
pub mod Rests
