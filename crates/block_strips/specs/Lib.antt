pub mod Blocks
pub mod Strips
pub mod Laid
