pub mod Checking
pub mod Walking
pub mod player
