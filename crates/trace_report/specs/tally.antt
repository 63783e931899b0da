pub mod Reporting
pub mod Touching
pub mod Tallying
pub mod Words
