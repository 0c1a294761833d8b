pub mod Offence
