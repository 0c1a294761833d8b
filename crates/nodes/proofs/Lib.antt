-- Laws that several proofs cite.
pub mod Strings
pub mod TermsLeft
pub mod Windowed
