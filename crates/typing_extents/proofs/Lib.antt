pub mod Meters
pub mod Steps
pub mod sizes_lemmas
