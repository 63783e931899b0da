pub mod Core
pub mod Expansion
pub mod Names
pub mod Sizes
pub mod Templates
pub mod trees
