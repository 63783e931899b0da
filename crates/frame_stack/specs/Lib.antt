pub mod Advancing
pub mod Kinds
pub mod Laws
pub mod Parts
pub mod Slicing
