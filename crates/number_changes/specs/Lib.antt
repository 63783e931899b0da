pub mod Moves
pub mod Calling
