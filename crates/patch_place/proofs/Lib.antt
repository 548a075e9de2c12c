pub mod Walking
pub mod Picking
pub mod Stepping
pub mod Limits
pub mod Known
pub mod Shortlists
pub mod BoxWalk
pub mod Passing
