-- Laws of the definitions, for the proofs of this crate and of those above it. They are proved: whoever reads what is promised may pass over them.
pub mod Choices
pub mod Windows
pub mod Given
pub mod Views
pub mod Opens
pub mod Inside
pub mod Pieces
pub mod Binders
pub mod Leaves
pub mod Numbers
