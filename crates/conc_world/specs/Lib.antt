pub mod Sets
pub mod Jobs
pub mod Committing
pub mod Runs
pub mod tickets
