pub mod OneCell
pub mod Waiting
