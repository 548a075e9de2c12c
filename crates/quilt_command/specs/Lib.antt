pub mod Quilts
pub mod QuiltHeadlines
pub mod Transfers
pub mod TransferHeadlines
