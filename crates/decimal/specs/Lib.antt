pub mod Decimal
pub mod Claims
pub mod Examples
pub mod Laws
