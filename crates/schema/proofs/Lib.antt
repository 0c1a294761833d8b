-- Laws that several proofs cite.
pub mod Rows
pub mod Levels
pub mod Ahead
pub mod Fields
pub mod TypeViews
pub mod Bases
pub mod Views
pub mod Passing
pub mod Search
pub mod Following
pub mod Among
pub mod TypeNames
pub mod ActionRow
pub mod Examples
