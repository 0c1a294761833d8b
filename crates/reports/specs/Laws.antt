-- Laws of the definitions, for the proofs of this crate and of those above it. They are proved: whoever reads what is promised may pass over them.
pub mod Reports
pub mod Messages
pub mod Sinks
pub mod Sets
pub mod Once
pub mod Slots
pub mod Standing
