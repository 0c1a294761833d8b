-- Laws that several proofs cite.
pub mod Choosing
pub mod Leaves
pub mod Windows
pub mod Given
pub mod Sequences
pub mod Examples
