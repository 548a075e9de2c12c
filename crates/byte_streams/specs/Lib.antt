pub mod Tails
pub mod Places
pub mod Readers
pub mod Writers
