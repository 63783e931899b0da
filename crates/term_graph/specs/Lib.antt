pub mod Eager
pub mod Steps
pub mod tables
