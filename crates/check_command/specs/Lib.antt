pub mod Checks
pub mod CheckHeadlines
