pub mod Documents
pub mod Commands
pub mod Inputs
pub mod Stops
pub mod Tasks
pub mod ring
pub mod words
