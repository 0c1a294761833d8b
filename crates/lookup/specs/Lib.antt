pub mod Lookup
pub mod Small
pub mod Places
