pub mod Entries
pub mod Windows
pub mod Entering
pub mod Listing
pub mod Laws
