pub mod Marks
pub mod Merges
pub mod MergeLaws
