pub mod Coded
pub mod Resolution
pub mod Places
pub mod Paths
pub mod Scopes
pub mod Passes
pub mod Laws
