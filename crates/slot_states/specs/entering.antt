pub mod Operating
pub mod Entering
pub mod NextLaws
