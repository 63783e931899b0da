mod Stages
pub mod Verdicts
