pub mod Scopes
pub mod Index
pub mod Environment
pub mod Enclosing
pub mod Rows
pub mod Lists
pub mod Laws
