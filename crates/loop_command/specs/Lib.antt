pub mod Loops
pub mod LoopOuts
pub mod LoopHeadlines
