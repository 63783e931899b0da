pub mod Parsed
pub mod blocks
