pub mod Parts
pub mod Verdicts
pub mod Following
pub mod player_lemmas
