pub mod Pictures
pub mod MergeCommand
pub mod MergeHeadlines
