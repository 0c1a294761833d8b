-- Laws that several proofs cite.
pub mod Reading
pub mod Views
pub mod Accepted
pub mod Asked
