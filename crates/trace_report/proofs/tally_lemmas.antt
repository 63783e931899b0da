pub mod Sums
pub mod Leaving
pub mod Serving
pub mod Operating
pub mod Steps
pub mod Counting
pub mod Tallied
pub mod Lines
