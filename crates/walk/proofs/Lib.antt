-- Laws that several proofs cite.
pub mod Trees
pub mod Chains
pub mod Holders
pub mod Filling
pub mod ByPlace
pub mod Bindings
pub mod Lookups
pub mod Spots
pub mod Environments
pub mod Declarations
pub mod Directories
