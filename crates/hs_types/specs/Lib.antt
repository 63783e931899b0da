pub mod Faults
pub mod Answers
pub mod Steps
pub mod Heads
