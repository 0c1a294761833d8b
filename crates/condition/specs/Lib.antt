pub mod Condition
pub mod Kinds
pub mod Walk
pub mod Places
pub mod Laws
