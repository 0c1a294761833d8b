pub mod Check
pub mod Answers
pub mod Known
pub mod Run
pub mod Laws
