pub mod Moving
pub mod Ruling
