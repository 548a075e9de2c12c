pub mod FileLaws
pub mod WrittenLaws
pub mod Sees
