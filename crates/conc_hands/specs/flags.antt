pub mod FlagsRule
pub mod Pens
