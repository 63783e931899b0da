pub mod Refused
pub mod Operates
