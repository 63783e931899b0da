pub mod Measuring
pub mod sizes
