pub mod SmallScripts
pub mod Histories
mod RunRows
mod WorkedRuns
pub mod Following
