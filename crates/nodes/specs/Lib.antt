pub mod Kinds
pub mod Offsets
pub mod Looked
pub mod Parts
pub mod Laws
