-- Laws that several proofs cite.
pub mod Between
pub mod States
pub mod Search
pub mod Calls
pub mod Doing
pub mod Moving
