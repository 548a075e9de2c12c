pub mod Staged
pub mod Checked
