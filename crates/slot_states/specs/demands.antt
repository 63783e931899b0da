pub mod Demands
pub mod Endings
