-- Laws that several proofs cite.
pub mod Fits
pub mod Words
