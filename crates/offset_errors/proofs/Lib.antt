pub mod Meetings
pub mod PlacedSums
pub mod CellSums
pub mod BoxErrors
pub mod SummedLists
pub mod Walks
pub mod AllOffsets
