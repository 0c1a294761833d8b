-- Laws of the definitions. They are proved: whoever reads what is promised may pass over them.
pub mod Values
pub mod Digits
pub mod Written
pub mod Shortest
