pub mod Header
pub mod Pictures
pub mod Scanning
pub mod Reading
