pub mod Sets
pub mod Objects
pub mod Nexts
