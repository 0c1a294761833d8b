-- Laws that several proofs cite.
pub mod Judging
pub mod Reporting
pub mod AtNode
pub mod Argued
