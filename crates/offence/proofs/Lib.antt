-- Laws that several proofs cite.
pub mod Steady
pub mod Flat
pub mod Nested
pub mod Fronts
pub mod Halving
pub mod Meaning
pub mod Examples
