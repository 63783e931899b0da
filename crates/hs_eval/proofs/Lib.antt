pub mod Cases
pub mod Floors
pub mod Comparisons
pub mod Steps
pub mod Named
pub mod Readings
pub mod Operands
