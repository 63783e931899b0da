pub mod Acted
pub mod Following
