pub mod Taken
pub mod Looping
pub mod LoopReady
pub mod LoopAccepted
pub mod LoopLaws
pub mod OneLoops
