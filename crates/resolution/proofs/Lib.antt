pub mod Admitted
pub mod OneType
pub mod AllTypes
pub mod Texts
pub mod Rendered
pub mod Namespaces
