pub mod Rounds
pub mod EndingLaws
