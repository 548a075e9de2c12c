pub mod Reading
pub mod Ready
pub mod Headline
