pub mod Trials
pub mod TrialHeadlines
