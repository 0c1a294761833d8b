pub mod Judging
pub mod Visiting
pub mod Running
