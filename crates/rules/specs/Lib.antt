pub mod Messages
pub mod Rules
pub mod Findings
pub mod Places
