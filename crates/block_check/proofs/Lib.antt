pub mod Columns
pub mod Faults
pub mod Filling
pub mod FirstBroken
pub mod OneFault
pub mod Several
pub mod Standing
pub mod BlockRows
