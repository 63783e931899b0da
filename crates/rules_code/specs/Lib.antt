pub mod CodeTrees
pub mod Codes
pub mod Matching
pub mod Slots
