pub mod Founds
pub mod Evaluation
pub mod Readings
pub mod Evaluators
