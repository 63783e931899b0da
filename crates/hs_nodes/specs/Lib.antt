pub mod Names
pub mod Finding
pub mod Emitting
pub mod Standing
