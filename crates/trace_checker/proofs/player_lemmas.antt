pub mod Runs
pub mod Main
pub mod Asked
pub mod Ends
pub mod Following
