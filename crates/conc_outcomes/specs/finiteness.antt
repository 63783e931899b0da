pub mod Walks
pub mod Ending
