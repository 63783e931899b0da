pub mod Made
pub mod Turns
pub mod Written
pub mod Calls
pub mod Forked
pub mod Thrown
