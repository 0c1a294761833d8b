pub mod Schema
pub mod Find
pub mod Places
pub mod Laws
