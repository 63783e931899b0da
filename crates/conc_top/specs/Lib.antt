pub mod Lines
pub mod Searches
pub mod Causes
pub mod Answers
