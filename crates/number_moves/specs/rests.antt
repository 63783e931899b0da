pub mod Resting
pub mod Rules
