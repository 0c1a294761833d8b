-- Laws of the definitions; nothing here has to be believed.
pub mod Segments
pub mod Lengths
