pub mod Terms
pub mod Facts
pub mod Settings
pub mod Bounds
pub mod Literals
pub mod Answers
pub mod Laws
