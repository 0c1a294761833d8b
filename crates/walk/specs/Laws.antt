-- Laws of the definitions, for the proofs of this crate and of those above it. They are proved: whoever reads what is promised may pass over them.
pub mod Named
pub mod Nodes
pub mod Names
pub mod Mere
