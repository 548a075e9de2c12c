pub mod GrownMaps
pub mod Growths
pub mod GrowHeadlines
pub mod BlockOutputs
pub mod BlockHeadlines
pub mod Tilings
pub mod TileHeadlines
pub mod TrialSamples
