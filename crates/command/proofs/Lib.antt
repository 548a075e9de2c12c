pub mod WritingLaws
pub mod Asking
pub mod Halves
pub mod Staging
pub mod Planning
pub mod Views
pub mod Promising
