pub mod FramePlaces
pub mod FrameLaws
pub mod EntryLaws
pub mod StepLaws
