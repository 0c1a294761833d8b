-- Laws of the definitions, for the proofs of this crate and of those above it. They are proved: whoever reads what is promised may pass over them.
pub mod Tables
pub mod Levels
pub mod ByKind
pub mod Decoded
pub mod Records
pub mod Sizes
