pub mod RunLaws
pub mod Standing
pub mod Replaying
