pub mod MapsOver
pub mod Withouts
pub mod Wholes
pub mod Nexts
pub mod Stepping
pub mod Leading
pub mod BadMarks
