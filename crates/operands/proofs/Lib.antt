-- Laws that several proofs cite.
pub mod Written
pub mod Asking
pub mod Examples
