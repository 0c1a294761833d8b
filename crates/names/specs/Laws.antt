-- Laws of the definitions, for the proofs of this crate and of those above it. They are proved: whoever reads what is promised may pass over them.
pub mod Lists
pub mod Names
pub mod Colons
pub mod Joined
pub mod Fields
pub mod Words
pub mod Writers
pub mod Walks
pub mod Tables
pub mod Readers
pub mod Rows
pub mod Records
