pub mod Upgrades
pub mod Upgraded
