-- Laws of the writers.
pub mod Pasting
