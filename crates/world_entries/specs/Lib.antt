pub mod Worlds
pub mod Reading
pub mod First
