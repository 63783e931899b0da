pub mod Views
pub mod Judged
pub mod Contexts
pub mod Heads
pub mod JudgedAs
