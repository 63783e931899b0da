pub mod Acts
pub mod Records
pub mod Pieces
