mod Filled
mod Ends
mod SoFar
mod Kept
