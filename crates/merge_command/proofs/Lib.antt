pub mod PictureLaws
pub mod Ready
pub mod Planning
pub mod MergeRuns
pub mod OneMerges
