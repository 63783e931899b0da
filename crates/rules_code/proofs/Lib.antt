pub mod Arena
pub mod Slotted
pub mod ActTrees
