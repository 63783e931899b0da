pub mod Rests
pub mod MoveLaws
