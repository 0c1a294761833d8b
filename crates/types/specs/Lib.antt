pub mod Types
pub mod Meaning
pub mod Rules
pub mod Words
pub mod Relations
pub mod Profiles
pub mod Laws
