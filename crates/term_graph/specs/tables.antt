pub mod Keys
pub mod Stacks
pub mod Numbered
