pub mod Histories
pub mod Terms
pub mod LocalRules
pub mod State
pub mod Primitives
pub mod Entries
pub mod Runs
pub mod Endings
