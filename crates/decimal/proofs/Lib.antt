pub mod Rest
pub mod Signs
pub mod Stores
