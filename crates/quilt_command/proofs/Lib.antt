pub mod Planning
pub mod QuiltLaws
pub mod OneQuiltOutputs
pub mod Naming
pub mod TransferPlanning
pub mod Matching
pub mod TransferLaws
pub mod OneTransfers
