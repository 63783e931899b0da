pub mod Told
pub mod Endings
pub mod Settled
pub mod history
pub mod clocked
