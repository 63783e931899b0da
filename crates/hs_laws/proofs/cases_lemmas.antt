pub mod Options
pub mod Lines
pub mod Performing
pub mod Entering
pub mod Driving
mod LateRuns
