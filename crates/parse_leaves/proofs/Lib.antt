pub mod Looks
pub mod Parts
pub mod Steps
pub mod Rows
pub mod case_arms_lemmas
