-- Laws that several proofs cite.
pub mod Plain
pub mod Arrays
pub mod Fields
pub mod Roots
pub mod Under
