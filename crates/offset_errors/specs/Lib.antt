pub mod Padded
pub mod Numbers
pub mod Offsets
pub mod Summed
pub mod Errors
