pub mod Listings
pub mod MemStates
pub mod Entries
pub mod Tapes
pub mod SureStates
pub mod Codes
