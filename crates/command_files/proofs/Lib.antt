pub mod Clips
pub mod OutFiles
pub mod Pictures
pub mod Ranges
pub mod ThreeFiles
