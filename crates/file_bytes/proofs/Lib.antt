pub mod WritingLaws
pub mod ReadingLaws
