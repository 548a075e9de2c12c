pub mod Flows
pub mod Records
pub mod Steps
