pub mod Mirrors
pub mod Marks
