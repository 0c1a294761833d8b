pub mod Parts
pub mod Listing
pub mod Renderings
pub mod Outputs
pub mod Runs
